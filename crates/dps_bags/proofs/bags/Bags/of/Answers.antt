use Rattle.dps_bags.proofs.Joining.{added_to_none}
use Rattle.dps_bags.proofs.bags.Bags.of.Goals as goal

pub returns : goal.returns
returns c = added_to_none c.add.new.self c.args.bag.items (rw c.new-bags.ensures at c.in_ok-add.ensures.added)
