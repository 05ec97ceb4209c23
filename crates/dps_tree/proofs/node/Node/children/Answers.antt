use Rattle.std.proofs.Common.{true≢false, sym}
use Rattle.dps_tree.proofs.Holding.{no_items_left}
use Rattle.dps_tree.proofs.Branching.{none_above, one_more_above, all_above}
use Rattle.dps_tree.proofs.node.Node.children.Goals as goal

pub loop-channel-init : goal.loop-channel-init
loop-channel-init c = rw c.new-children.ensures.items (none_above c.args.table.now c.args.self.now c.in_ok-channels.channels.keys c.in_ok-channels.ensures)

pub loop-channel-preserved : goal.loop-channel-preserved
loop-channel-preserved c =
    rw c.in_ok-push.ensures.items
    (one_more_above c.args.table.now c.args.self.now c.loop-channel.channels.keys c.pop_last.new.self.keys c.in-Some.channel c.loop-channel.children.items c.in_ok-child.field-0
    c.loop-channel.invariant c.in-Some.ensures.removal c.in-Some.ensures.all_below c.in_ok-child.ensures)

pub returns : goal.returns
returns c =
    all_above c.args.table.now c.args.self.now c.loop-channel.channels.keys c.loop-channel.children.items
    (no_items_left c.loop-channel.channels.keys (λ h. true≢false (sym (c.in_default.ensures.variant.1 h))))
    c.loop-channel.invariant
