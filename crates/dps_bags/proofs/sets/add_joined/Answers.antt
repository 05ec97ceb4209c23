use Rattle.std.proofs.Common.{arith}
use Rattle.dps_bags.proofs.Joining.{joins_more, joins_all}
use Rattle.dps_bags.proofs.sets.add_joined.Goals as goal

pub loop-index-preserved : goal.loop-index-preserved
loop-index-preserved c =
    joins_more c.args.one.now c.args.others.now c.args.found.now c.loop-index.found c.add.new.self c.loop-index.index c.in_ok-both.field-0.items
    (omega (arith, c.loop-index-test.true, c.len-index-end.ensures.count)) c.loop-index.invariant (rw c.bag.ensures.there at c.in_ok-both.ensures.joined) c.in_ok-add.ensures.added

pub returns : goal.returns
returns c =
    joins_all c.args.one.now c.args.others.now c.args.found.now c.loop-index.found c.loop-index.index (omega (arith, c.loop-index-test.false, c.len-index-end.ensures.count)) c.loop-index.invariant
