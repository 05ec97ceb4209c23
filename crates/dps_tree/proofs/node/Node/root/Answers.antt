use Rattle.dps_tree.proofs.Framing.{root_node}
use Rattle.dps_tree.proofs.node.Node.root.Goals as goal

pub returns : goal.returns
returns c =
    root_node c.args.table.now c.args.left.items c.args.right.items c.in_ok-left.left c.in_ok-right.right _ c.new.ensures.items c.in_ok-vec.ensures.items c.in_ok-vec-2.ensures.items
    c.in_ok-left.ensures c.in_ok-right.ensures c.requires.on_left c.requires.on_right
