use Rattle.std.proofs.Common.{arith, subst, sym}
use Rattle.dps_theory.specs.Theory.{Rule, IsBounded}
use Rattle.dps_symeval.proofs.Reducing.{left_room, right_room}
use Rattle.dps_symeval.proofs.narrowing.reduced.Goals as goal

pub with_left-requires : goal.with_left-requires
with_left-requires c =
    let rule : Rule = record { left = c.rule.inside.left; right = c.rule.inside.right } in
    left_room rule c.choice.inside.next c.in_ok-next.next c.in_ok-next.ensures (omega arith)

pub rename-requires : goal.rename-requires
rename-requires c =
    let rule : Rule = record { left = c.rule.inside.left; right = c.rule.inside.right } in
    right_room rule c.choice.inside.next c.in_ok-next.next (subst IsBounded (sym c.rule.view_is) c.requires) c.in_ok-next.ensures (omega arith)
