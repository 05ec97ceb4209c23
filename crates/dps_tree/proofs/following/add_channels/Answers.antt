use Rattle.std.proofs.Common.{List, take}
use Rattle.dps_tree.specs.Following.{AddsOffers, OneBagOffers, GroupsOffer}
use Rattle.dps_tree.specs.declared.group.Group.{Group}
use Rattle.dps_tree.proofs.Holding.{taken_more, taken_all}
use Rattle.dps_tree.proofs.Offering.{one_is_more}
use Rattle.dps_tree.proofs.following.add_channels.Goals as goal

pub loop-group-preserved : goal.loop-group-preserved
loop-group-preserved c =
    let table = c.args.table.now in
    taken_more (λ (gs : List Group). AddsOffers (GroupsOffer table gs) c.args.channels.now.keys c.add_group_offers.new.channels.keys) c.args.groups.now c.loop-group.group-index
    c.group-item.result c.group-item.is c.loop-group-test.true
    (one_is_more (λ (g : Group). OneBagOffers table g.bags) (take c.loop-group.group-index c.args.groups.now) c.group-item.result _ _ _ c.loop-group.invariant c.in_ok-add_group_offers.ensures)

pub returns : goal.returns
returns c =
    taken_all (λ (gs : List Group). AddsOffers (GroupsOffer c.args.table.now gs) c.args.channels.now.keys c.loop-group.channels.keys) c.args.groups.now c.loop-group.group-index
    c.loop-group-test.false c.loop-group.invariant
