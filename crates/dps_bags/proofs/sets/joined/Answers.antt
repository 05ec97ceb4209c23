use Rattle.std.proofs.Common.{arith}
use Rattle.dps_bags.proofs.Joining.{joined_more, joined_all}
use Rattle.dps_bags.proofs.sets.joined.Goals as goal

pub loop-index-preserved : goal.loop-index-preserved
loop-index-preserved c =
    joined_more c.args.ones.now c.args.others.now c.loop-index.found c.add_joined.new.found c.loop-index.index
    (omega (arith, c.loop-index-test.true, c.len-index-end.ensures.count)) c.loop-index.invariant (rw c.bag.ensures.there at c.in_ok-add_joined.ensures)

pub returns : goal.returns
returns c =
    joined_all c.args.ones.now c.args.others.now c.loop-index.found c.loop-index.index (omega (arith, c.loop-index-test.false, c.len-index-end.ensures.count)) c.loop-index.invariant
