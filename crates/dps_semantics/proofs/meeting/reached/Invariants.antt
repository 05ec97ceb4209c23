use Rattle.dps_semantics.specs.Parts.{OneStandsFor}
use Rattle.dps_semantics.proofs.Closure.{ReachesBelow}
use Rattle.dps_semantics.proofs.meeting.reached.Given as goal

abbrev pub invariant-loop-index : goal.invariant-loop-index
invariant-loop-index l = ReachesBelow l.problem.model l.problem.signature l.problem.theory (OneStandsFor l.fn.parts l.fn.bags) l.index l.fn.parts l.parts l.found
