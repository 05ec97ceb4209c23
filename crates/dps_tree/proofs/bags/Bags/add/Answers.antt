use Rattle.dps_tree.proofs.Holding.{pushed_mapped}
use Rattle.dps_tree.proofs.bags.Bags.add.Goals as goal

pub returns : goal.returns
returns c =
    rw (← c.self.view_is, c.in_ok-push.ensures.items) (pushed_mapped (λ bag. bag.items) c.self.inside.list.items c.args.bag)
