use Rattle.std.proofs.Common.{get_or}
use Rattle.dps_tree.proofs.Holding.{get_there}
use Rattle.dps_tree.proofs.Nexts.{part_more, part_other, part_none}
use Rattle.dps_tree.proofs.following.add_part.Goals as goal

pub returns-then-output-channel : goal.returns-then-output-channel
returns-then-output-channel c =
    let bag = c.args.bag.now in
    let there = get_there bag c.args.index 0 c.requires in
    let after = rw c.deref.ensures.value at c.in_ok-after.ensures in
    part_more c.args.table.now bag c.args.channel c.args.index c.in-Some.output.now c.in_ok-after.after.items c.args.next.now c.add.new.self (get_or bag c.args.index 0, there, c.in-Some.ensures)
    c.if-output-channel.true after c.in_ok-add.ensures

pub returns-else-output-channel : goal.returns-else-output-channel
returns-else-output-channel c =
    part_other c.args.table.now c.args.bag.now c.args.channel c.args.index (get_or c.args.bag.now c.args.index 0) c.in-Some.output.now c.args.next.now
    (get_there c.args.bag.now c.args.index 0 c.requires) c.in-Some.ensures c.if-output-channel.false

pub returns-in_default : goal.returns-in_default
returns-in_default c =
    part_none c.args.table.now c.args.bag.now c.args.channel c.args.index (get_or c.args.bag.now c.args.index 0) c.args.next.now (get_there c.args.bag.now c.args.index 0 c.requires)
    c.in_default.ensures
