use Rattle.std.proofs.Common.{take}
use Rattle.dps_tree.specs.Following.{AddsOffers, BagOffers}
use Rattle.dps_tree.proofs.following.add_offers.Given as goal

abbrev pub invariant-loop-number : goal.invariant-loop-number
invariant-loop-number l = AddsOffers (BagOffers l.fn.table (take l.number-index l.bag)) l.fn.channels.keys l.channels.keys
