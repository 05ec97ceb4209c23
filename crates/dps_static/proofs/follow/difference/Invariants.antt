use Rattle.dps_static.proofs.Following.{PassBefore}
use Rattle.dps_static.proofs.follow.difference.Given as goal

abbrev pub invariant-loop-index : goal.invariant-loop-index
invariant-loop-index l = PassBefore l.kept l.counterparts l.index
