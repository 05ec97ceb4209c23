use Rattle.std.proofs.Common.{◌∙◌}
use Rattle.dps_tree.proofs.Nexts.{bag_more, at_apart}
use Rattle.dps_tree.proofs.next.Next.add.Goals as goal

pub returns : goal.returns
returns c =
    let updates = c.in_ok-insert.ensures.updates in
    bag_more c.args.message c.args.bag.items c.args.self.now (record { bags = c.insert.new.self }) c.take-bags.result c.add.new.self c.take-bags.ensures.taken c.in_ok-add.ensures updates.1
    (λ q h. updates.2 q (at_apart c.args.message q h) ∙ c.take-bags.ensures.others q h)
