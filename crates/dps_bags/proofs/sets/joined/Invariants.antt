use Rattle.dps_bags.proofs.Joining.{JoinedBelow}
use Rattle.dps_bags.proofs.sets.joined.Given as goal

abbrev pub invariant-loop-index : goal.invariant-loop-index
invariant-loop-index l = JoinedBelow l.ones l.others l.index l.found
