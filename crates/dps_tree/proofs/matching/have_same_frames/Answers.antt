use Rattle.std.proofs.Common.{List, take}
use Rattle.dps_tree.specs.Groups.{AreAmong}
use Rattle.dps_tree.specs.declared.group.Group.{Group}
use Rattle.dps_tree.proofs.Holding.{taken_more, taken_all}
use Rattle.dps_tree.proofs.Matchings.{among_more}
use Rattle.dps_tree.proofs.matching.have_same_frames.Goals as goal

pub loop-group-preserved : goal.loop-group-preserved
loop-group-preserved c =
    let there = rw c.deref.ensures.value at c.has_frame.ensures c.if-not-has_frame.false in
    taken_more (λ (gs : List Group). AreAmong gs c.args.others.now) c.args.groups.now c.loop-group.group-index c.group-item.result c.group-item.is c.loop-group-test.true
    (among_more (take c.loop-group.group-index c.args.groups.now) c.group-item.result c.args.others.now c.loop-group.invariant there)

pub returns : goal.returns
returns c t =
    taken_all (λ (gs : List Group). AreAmong gs c.args.others.now) c.args.groups.now c.loop-group.group-index c.loop-group-test.false c.loop-group.invariant
