use Rattle.dps_tree.proofs.Branching.{offers_of_both}
use Rattle.dps_tree.proofs.node.Node.offered.Goals as goal

pub returns : goal.returns
returns c =
    let left = rw (c.deref.ensures.value, c.new-channels.ensures.empty) at c.in_ok-add_channels.ensures in
    let right = rw c.deref-2.ensures.value at c.in_ok-add_channels-2.ensures in
    offers_of_both c.args.table.now c.args.self.now _ _ c.requires left right
