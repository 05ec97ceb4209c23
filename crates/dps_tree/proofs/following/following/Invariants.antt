use Rattle.std.proofs.Common.{take, []}
use Rattle.dps_tree.specs.Following.{AreMore, GroupsGoOn}
use Rattle.dps_tree.proofs.following.following.Given as goal

abbrev pub invariant-loop-group : goal.invariant-loop-group
invariant-loop-group l = AreMore (GroupsGoOn l.fn.table (take l.group-index l.groups) l.fn.channel) [] l.found.items
