use Rattle.std.proofs.Common.{ℕ, List, map, take, subst, sym, Vec, Global}
use Rattle.dps_tree.specs.Following.{AddsOffers, BagOffers, OneBagOffers}
use Rattle.dps_tree.proofs.Holding.{taken_more, taken_all, mapped_pushed}
use Rattle.dps_tree.proofs.Offering.{one_is_more}
use Rattle.dps_tree.proofs.following.add_group_offers.Goals as goal

pub loop-bag-preserved : goal.loop-bag-preserved
loop-bag-preserved c =
    let table = c.args.table.now in
    let bags = c.list-bag-items.result.now in
    let first = take c.loop-bag.bag-index bags in
    let one = rw c.deref.ensures.value at c.in_ok-add_offers.ensures in
    taken_more (λ (vs : List (Vec ℕ Global)). AddsOffers (OneBagOffers table (map (λ bag. bag.items) vs)) c.args.channels.now.keys c.add_offers.new.channels.keys) bags c.loop-bag.bag-index
    c.bag-item.result c.bag-item.is c.loop-bag-test.true
    (subst (λ (ns : List (List ℕ)). AddsOffers (OneBagOffers table ns) c.args.channels.now.keys c.add_offers.new.channels.keys) (sym (mapped_pushed (λ bag. bag.items) first c.bag-item.result))
    (one_is_more (BagOffers table) (map (λ bag. bag.items) first) c.bag-item.result.items _ _ _ c.loop-bag.invariant one))

pub returns : goal.returns
returns c =
    subst (λ (ns : List (List ℕ)). AddsOffers (OneBagOffers c.args.table.now ns) c.args.channels.now.keys c.loop-bag.channels.keys) c.list-bag-items.ensures
    (taken_all (λ (vs : List (Vec ℕ Global)). AddsOffers (OneBagOffers c.args.table.now (map (λ bag. bag.items) vs)) c.args.channels.now.keys c.loop-bag.channels.keys)
    c.list-bag-items.result.now c.loop-bag.bag-index c.loop-bag-test.false c.loop-bag.invariant)
