use Rattle.std.proofs.Common.{take}
use Rattle.dps_tree.specs.Following.{AddsOffers, GroupsOffer}
use Rattle.dps_tree.proofs.following.add_channels.Given as goal

abbrev pub invariant-loop-group : goal.invariant-loop-group
invariant-loop-group l = AddsOffers (GroupsOffer l.fn.table (take l.group-index l.groups)) l.fn.channels.keys l.channels.keys
