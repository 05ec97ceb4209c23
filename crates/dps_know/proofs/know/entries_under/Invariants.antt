use Rattle.std.proofs.Common.{◌≡◌, map, take}
use Rattle.dps_terms.specs.Bindings.{image}
use Rattle.dps_know.specs.Know.{entry_under}
use Rattle.dps_know.proofs.know.entries_under.Given as goal

abbrev pub invariant-loop-entry : goal.invariant-loop-entry
invariant-loop-entry l = l.made.items ≡ map (entry_under (image l.by)) (take l.entry-index l.entries)
