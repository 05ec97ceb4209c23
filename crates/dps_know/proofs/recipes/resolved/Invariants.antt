use Rattle.std.proofs.Common.{◌≡◌, [], drop}
use Rattle.dps_know.specs.Know.{resolved_after}
use Rattle.dps_know.proofs.recipes.resolved.Given as goal

abbrev pub invariant-loop-entry : goal.invariant-loop-entry
invariant-loop-entry l = resolved_after l.recipes.items (drop l.entry-index l.entries) ≡ resolved_after [] l.entries
