use Rattle.dps_tree.proofs.Pending.{IsPending}
use Rattle.dps_tree.proofs.Weighing.{total, weight}
use Rattle.dps_tree.proofs.plain_check.Given as goal

abbrev pub decreases-loop-node : goal.decreases-loop-node
decreases-loop-node l = total (weight l.fn.problem) l.pending.items

abbrev pub invariant-loop-node : goal.invariant-loop-node
invariant-loop-node l = IsPending l.fn.problem l.table l.pending.items
