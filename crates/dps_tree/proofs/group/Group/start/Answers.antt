use Rattle.dps_tree.proofs.Framing.{start_group}
use Rattle.dps_tree.proofs.group.Group.start.Goals as goal

pub returns : goal.returns
returns c = start_group c.args.bag.items _ c.new-bags.result c.new-bags.ensures c.new.ensures.items c.in_ok-add.ensures
