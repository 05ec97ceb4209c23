use Rattle.dps_bags.proofs.Joining.{JoinsBelow}
use Rattle.dps_bags.proofs.sets.add_joined.Given as goal

abbrev pub invariant-loop-index : goal.invariant-loop-index
invariant-loop-index l = JoinsBelow l.one l.others l.fn.found l.index l.found
