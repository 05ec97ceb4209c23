use Rattle.dps_semantics.proofs.Actions.{MovesBelow}
use Rattle.dps_semantics.proofs.acting.all_moved.Given as goal

abbrev pub invariant-loop-index : goal.invariant-loop-index
invariant-loop-index l = MovesBelow l.problem.theory l.asked l.config l.index l.seen l.found.items
