use Rattle.dps_tree.specs.Following.{IsMore}
use Rattle.dps_tree.proofs.Nexts.{GoesOnBelow}
use Rattle.dps_tree.proofs.following.add_next.Given as goal

abbrev pub invariant-loop-index : goal.invariant-loop-index
invariant-loop-index l = IsMore (GoesOnBelow l.fn.table l.fn.bag l.fn.channel l.index) l.fn.next l.next
