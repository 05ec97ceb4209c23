use Rattle.std.proofs.Common.{◌≡◌, ◌∙◌, sym, true, false}
use Rattle.dps_theory.specs.Theory.{Rule}
use Rattle.dps_theory.proofs.Overlapping.{small_variables, left_has_room, right_has_room, overlap_none, overlap_same, overlap_different}
use Rattle.dps_theory.proofs.overlap.overlap.Goals as goal

pub room_of-requires : goal.room_of-requires
room_of-requires c =
    let r : Rule = record { left = c.first.inside.left; right = c.first.inside.right } in
    small_variables r (rw (← c.first.view_is) at c.requires.first_small)

pub rename-requires : goal.rename-requires
rename-requires c =
    let r : Rule = record { left = c.first.inside.left; right = c.first.inside.right } in
    let q : Rule = record { left = c.second.inside.left; right = c.second.inside.right } in
    rw c.in_ok-by.ensures (left_has_room r q (rw (← c.first.view_is) at c.requires.first_small) (rw (← c.second.view_is) at c.requires.second_small))

pub returns-in_default : goal.returns-in_default
returns-in_default c =
    let r : Rule = record { left = c.first.inside.left; right = c.first.inside.right } in
    let q : Rule = record { left = c.second.inside.left; right = c.second.inside.right } in
    rw (← c.first.view_is, ← c.second.view_is)
    (overlap_none r q c.in_ok-by.by c.in_ok-left.left c.in_ok-by.ensures c.in_ok-left.ensures (rw c.in_default.is at c.in_ok-unifier.ensures))

pub rename-requires-2 : goal.rename-requires-2
rename-requires-2 c =
    let r : Rule = record { left = c.first.inside.left; right = c.first.inside.right } in
    let q : Rule = record { left = c.second.inside.left; right = c.second.inside.right } in
    rw c.in_ok-by.ensures (right_has_room r q (rw (← c.first.view_is) at c.requires.first_small) (rw (← c.second.view_is) at c.requires.second_small))

pub returns-then-branch : goal.returns-then-branch
returns-then-branch c =
    let r : Rule = record { left = c.first.inside.left; right = c.first.inside.right } in
    let q : Rule = record { left = c.second.inside.left; right = c.second.inside.right } in
    rw (← c.first.view_is, ← c.second.view_is)
    (overlap_same r q c.in_ok-by.by c.in_ok-left.left c.in_ok-by.ensures c.in_ok-left.ensures c.in-Some.unifier (rw c.in-Some.is at c.in_ok-unifier.ensures) c.in_ok-right.right c.in_ok-right.ensures
    (rw (← c.first.view_is) at c.requires.bounded) (c.in_ok-are_equal_under.ensures.0 c.if-branch.true))

pub returns : goal.returns
returns c =
    let r : Rule = record { left = c.first.inside.left; right = c.first.inside.right } in
    let q : Rule = record { left = c.second.inside.left; right = c.second.inside.right } in
    rw (← c.first.view_is, ← c.second.view_is)
    (overlap_different r q c.in_ok-by.by c.in_ok-left.left c.in_ok-by.ensures c.in_ok-left.ensures c.in-Some.unifier (rw c.in-Some.is at c.in_ok-unifier.ensures) c.in_ok-right.right c.in_ok-right.ensures
    (λ e. let k : false ≡ true = sym c.if-branch.false ∙ c.in_ok-are_equal_under.ensures.1 e in cc))
