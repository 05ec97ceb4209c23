use Rattle.dps_know.proofs.Recorded.{FirstAvoid}
use Rattle.dps_know.proofs.know.is_normal.Given as goal

abbrev pub invariant-loop-composition : goal.invariant-loop-composition
invariant-loop-composition l = FirstAvoid l.recorded l.composition-index l.tree
