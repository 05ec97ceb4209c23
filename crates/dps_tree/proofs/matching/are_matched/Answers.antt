use Rattle.std.proofs.Common.{◌∙◌, List, take, sym, subst, refl, arith, true}
use Rattle.std.specs.Prelude.{Contains}
use Rattle.dps_terms.specs.Tree.{Tree}
use Rattle.dps_tree.specs.Table.{frame_of}
use Rattle.dps_tree.specs.Groups.{HoldsFrame}
use Rattle.dps_tree.specs.Matching.{AreJust, AreMatchAnswer}
use Rattle.dps_tree.specs.declared.group.Group.{Group}
use Rattle.dps_tree.proofs.Holding.{contains_item, taken_more, taken_all}
use Rattle.dps_tree.proofs.Matchings.{all_among, one_unmatched, more_to_match}
use Rattle.dps_tree.proofs.matching.are_matched.Goals as goal

pub returns-then-have_same_frames : goal.returns-then-have_same_frames
returns-then-have_same_frames c =
    all_among c.args.theory.now c.args.table.now c.args.groups.now c.args.others.now (c.have_same_frames.ensures c.if-have_same_frames.true)

pub is_matched-requires-clause-few : goal.is_matched-requires-clause-few
is_matched-requires-clause-few c some =
    let there = contains_item c.args.groups.now c.loop-group.group-index c.group-item.result c.group-item.is c.loop-group-test.true in
    let level = c.requires.first (frame_of c.args.table.now c.group-item.result.frame.items) (c.group-item.result, there, some, refl) in
    let few = c.requires.few in omega (arith, level, few)

pub is_matched-requires-clause-level : goal.is_matched-requires-clause-level
is_matched-requires-clause-level c some f m =
    let there = contains_item c.args.groups.now c.loop-group.group-index c.group-item.result c.group-item.is c.loop-group-test.true in
    let first = c.requires.first (frame_of c.args.table.now c.group-item.result.frame.items) (c.group-item.result, there, some, refl) in
    let inside = subst (λ (fs : List (List Tree)). Contains fs f) c.deref.ensures.value m in
    c.requires.second f ((c.in_ok-frames.ensures f).0 inside) ∙ sym first

pub is_matched-requires-clause-made : goal.is_matched-requires-clause-made
is_matched-requires-clause-made c =
    subst (λ (fs : List (List Tree)). AreJust fs (HoldsFrame c.args.table.now c.args.others.now)) (sym c.deref.ensures.value) c.in_ok-frames.ensures

pub returns-then-not-branch : goal.returns-then-not-branch
returns-then-not-branch c =
    let there = contains_item c.args.groups.now c.loop-group.group-index c.group-item.result c.group-item.is c.loop-group-test.true in
    one_unmatched c.args.theory.now c.args.table.now (HoldsFrame c.args.table.now c.args.others.now) c.args.groups.now c.group-item.result there (rw c.if-not-branch.true at c.in_ok-is_matched.ensures)

pub loop-group-preserved : goal.loop-group-preserved
loop-group-preserved c =
    let others = HoldsFrame c.args.table.now c.args.others.now in
    taken_more (λ (gs : List Group). AreMatchAnswer c.args.theory.now (HoldsFrame c.args.table.now gs) others true) c.args.groups.now c.loop-group.group-index c.group-item.result c.group-item.is
    c.loop-group-test.true
    (more_to_match c.args.theory.now c.args.table.now others (take c.loop-group.group-index c.args.groups.now) c.group-item.result c.loop-group.invariant
    (rw c.if-not-branch.false at c.in_ok-is_matched.ensures))

pub returns : goal.returns
returns c =
    let others = HoldsFrame c.args.table.now c.args.others.now in
    taken_all (λ (gs : List Group). AreMatchAnswer c.args.theory.now (HoldsFrame c.args.table.now gs) others true) c.args.groups.now c.loop-group.group-index c.loop-group-test.false
    c.loop-group.invariant
