use Rattle.std.proofs.Common.{◌≡◌, ◌++◌, take}
use Rattle.std.specs.List.{zip}
use Rattle.dps_terms.specs.Seen.{seen}
use Rattle.dps_terms.specs.Views.{arguments}
use Rattle.dps_unify.specs.Difference.{pairs_of}
use Rattle.dps_unify.proofs.difference.push_arguments.Given as goal

abbrev pub invariant-loop-index : goal.invariant-loop-index
invariant-loop-index l =
    pairs_of l.pending.items ≡ pairs_of l.fn.pending.items ++ take l.index (zip (arguments (seen l.left)) (arguments (seen l.right)))
