use Rattle.std.proofs.Common.{[], List, take}
use Rattle.dps_tree.specs.Following.{AreMore, GroupsGoOn}
use Rattle.dps_tree.specs.declared.group.Group.{Group}
use Rattle.dps_tree.proofs.Holding.{taken_more, taken_all}
use Rattle.dps_tree.proofs.Nexts.{group_more}
use Rattle.dps_tree.proofs.Lifting.{found_named, found_following}
use Rattle.dps_tree.proofs.following.following.Goals as goal

pub loop-group-preserved : goal.loop-group-preserved
loop-group-preserved c =
    taken_more (λ (gs : List Group). AreMore (GroupsGoOn c.args.table.now gs c.args.channel) [] c.add_following.new.found.items) c.args.groups.now c.loop-group.group-index c.group-item.result
    c.group-item.is c.loop-group-test.true
    (group_more c.args.table.now c.args.channel (take c.loop-group.group-index c.args.groups.now) c.group-item.result _ _ c.loop-group.invariant c.in_ok-add_following.ensures)

pub returns-clause-following : goal.returns-clause-following
returns-clause-following c =
    found_following c.args.table.now c.args.groups.now c.loop-group.found.items c.args.channel c.requires
    (taken_all (λ (gs : List Group). AreMore (GroupsGoOn c.args.table.now gs c.args.channel) [] c.loop-group.found.items) c.args.groups.now c.loop-group.group-index c.loop-group-test.false
    c.loop-group.invariant)

pub returns-clause-named : goal.returns-clause-named
returns-clause-named c =
    found_named c.args.table.now c.args.groups.now c.loop-group.found.items c.args.channel c.requires
    (taken_all (λ (gs : List Group). AreMore (GroupsGoOn c.args.table.now gs c.args.channel) [] c.loop-group.found.items) c.args.groups.now c.loop-group.group-index c.loop-group-test.false
    c.loop-group.invariant)
