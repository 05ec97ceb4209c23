use Rattle.std.proofs.Common.{ℕ, List, take, get_or}
use Rattle.dps_tree.specs.Following.{AddsOffers, NumberOffers, BagOffers}
use Rattle.dps_tree.proofs.Holding.{taken_next, taken_all}
use Rattle.dps_tree.proofs.Offering.{one_is_more}
use Rattle.dps_tree.proofs.following.add_offers.Goals as goal

pub loop-number-preserved : goal.loop-number-preserved
loop-number-preserved c =
    let bag = c.args.bag.now in
    taken_next (λ (ns : List ℕ). AddsOffers (BagOffers c.args.table.now ns) c.args.channels.now.keys c.add_offer.new.channels.keys) bag c.loop-number.number-index 0 c.loop-number-test.true
    (one_is_more (NumberOffers c.args.table.now) (take c.loop-number.number-index bag) (get_or bag c.loop-number.number-index 0) _ _ _ c.loop-number.invariant c.in_ok-add_offer.ensures)

pub returns : goal.returns
returns c =
    taken_all (λ (ns : List ℕ). AddsOffers (BagOffers c.args.table.now ns) c.args.channels.now.keys c.loop-number.channels.keys) c.args.bag.now c.loop-number.number-index
    c.loop-number-test.false c.loop-number.invariant
