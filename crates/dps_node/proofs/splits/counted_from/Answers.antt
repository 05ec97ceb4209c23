use Rattle.dps_node.proofs.Mapped.{counted_more}
use Rattle.dps_node.proofs.splits.counted_from.Goals as goal

pub loop-index-preserved : goal.loop-index-preserved
loop-index-preserved c =
    counted_more c.args.first c.loop-index.index c.in-Some.number c.loop-index.numbers.items c.push.new.self.items c.in-Some.ensures.1 c.in_ok-push.ensures.items c.loop-index.invariant
