use Rattle.std.proofs.Common.{◌≡◌, take}
use Rattle.dps_terms.specs.Views.{arguments}
use Rattle.dps_terms.specs.Seen.{seen}
use Rattle.dps_search.specs.Going.{targets_from}
use Rattle.dps_search.proofs.branch.argument_targets.Given as goal

abbrev pub invariant-loop-index : goal.invariant-loop-index
invariant-loop-index l = l.targets.items ≡ targets_from l.level l.first (take l.index (arguments (seen l.term)))
