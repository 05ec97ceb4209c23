use Rattle.dps_terms.specs.Seen.{seen}
use Rattle.dps_trace.proofs.Handles.{Follows}
use Rattle.dps_trace.proofs.turn.has_handles_up_to.Given as goal

abbrev pub invariant-loop-node : goal.invariant-loop-node
invariant-loop-node l = Follows l.most (seen l.recipe) l.node
