use Rattle.dps_bindings.proofs.Newly.{AreFound}
use Rattle.dps_bindings.proofs.unified.all_variables.Given as goal

abbrev pub invariant-loop-pair : goal.invariant-loop-pair
invariant-loop-pair l = AreFound l.pairs l.pair-index l.found.items
