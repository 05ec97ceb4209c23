use Rattle.std.proofs.Common.{◌∙◌, List, length, ap, subst, arith}
use Rattle.std.specs.Prelude.{Contains}
use Rattle.dps_terms.specs.Tree.{Tree}
use Rattle.dps_tree.specs.Table.{frame_of}
use Rattle.dps_tree.specs.Groups.{HoldsFrame}
use Rattle.dps_tree.specs.Matching.{IsMatchAnswer}
use Rattle.dps_tree.proofs.Holding.{some_left}
use Rattle.dps_tree.proofs.Matchings.{numbers_match, answer_same, group_answer}
use Rattle.dps_tree.proofs.matching.is_matched.Goals as goal
use Rattle.dps_tree.proofs.matching.is_matched.Goals.{then-is_empty-via-then-is_empty, then-is_empty-via-else-is_empty+then-has_frame}

pub returns-then-is_empty : goal.returns-then-is_empty
returns-then-is_empty c some =
    elim c.then-is_empty.branch [
      | then-is_empty-via-then-is_empty w ↦ absurd (let none = c.is_empty.ensures.0 w.if-is_empty.true in omega (arith, some, none))
      | then-is_empty-via-else-is_empty+then-has_frame w ↦
          numbers_match c.args.theory.now c.args.table.now c.args.others.now c.args.group.now.frame.items (rw w.deref.ensures.value at w.has_frame.ensures w.if-has_frame.true)
    ]

pub returns : goal.returns
returns c =
    let frame = c.in_ok-frame.ensures ∙ ap (frame_of c.args.table.now) c.deref-2.ensures.value in
    let others = HoldsFrame c.args.table.now c.args.others.now in
    let answer = c.in_ok-matched.matched in
    let some = some_left (length c.args.group.now.bags) c.is_empty.result c.is_empty.ensures.1 c.if-is_empty.false in
    group_answer c.args.theory.now (length c.args.group.now.bags) (frame_of c.args.table.now c.args.group.now.frame.items) others answer some
    (answer_same c.args.theory.now (frame_of c.args.table.now c.args.group.now.frame.items) c.args.frames.now others answer c.requires.made
    (subst (λ (f : List Tree). IsMatchAnswer c.args.theory.now f (Contains c.args.frames.now) answer) frame c.in_ok-matched.ensures))
