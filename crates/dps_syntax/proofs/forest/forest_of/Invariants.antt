use Rattle.dps_syntax.proofs.Labels.{IsBuilding}
use Rattle.dps_syntax.proofs.forest.forest_of.Given as goal

abbrev pub invariant-loop-mark : goal.invariant-loop-mark
invariant-loop-mark l = IsBuilding l.bytes l.marks l.tokens l.mark-index l.next l.builder
