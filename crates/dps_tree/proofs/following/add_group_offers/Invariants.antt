use Rattle.std.proofs.Common.{take, map}
use Rattle.dps_tree.specs.Following.{AddsOffers, OneBagOffers}
use Rattle.dps_tree.proofs.following.add_group_offers.Given as goal

abbrev pub invariant-loop-bag : goal.invariant-loop-bag
invariant-loop-bag l = AddsOffers (OneBagOffers l.fn.table (map (λ bag. bag.items) (take l.bag-index l.bag-items))) l.fn.channels.keys l.channels.keys
