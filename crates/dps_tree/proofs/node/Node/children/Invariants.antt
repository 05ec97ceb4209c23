use Rattle.std.proofs.Common.{length}
use Rattle.dps_tree.proofs.Branching.{ChildrenAbove}
use Rattle.dps_tree.proofs.node.Node.children.Given as goal

abbrev pub decreases-loop-channel : goal.decreases-loop-channel
decreases-loop-channel l = length l.channels.keys

abbrev pub invariant-loop-channel : goal.invariant-loop-channel
invariant-loop-channel l = ChildrenAbove l.fn.table l.fn.self l.channels.keys l.children.items
