use Rattle.std.proofs.Common.{◌-◌, ◌∙◌, ap, arith, length, take}
use Rattle.dps_terms.proofs.Stacked.{step, walk_next, walked}
use Rattle.dps_terms.proofs.stack.width_in_front.Goals as goal

pub overflow_sub-rest-in-loop-left : goal.overflow_sub-rest-in-loop-left
overflow_sub-rest-in-loop-left c =
    let s = step _ _ _ _ _ _ c.loop-left.invariant (omega (arith, c.loop-left-test.true)) in
    rw c.width-width.ensures s.enough

pub loop-left-preserved : goal.loop-left-preserved
loop-left-preserved c =
    let s = step _ _ _ _ _ _ c.loop-left.invariant (omega (arith, c.loop-left-test.true)) in
    walk_next _ _ _ _ _ _ c.loop-left.invariant s (omega (arith, c.loop-left-test.true))
    (c.split_at.ensures.front ∙ ap (λ n. take (length c.loop-left.rest.now - n) c.loop-left.rest.now) c.width-width.ensures)

pub returns : goal.returns
returns c = walked _ _ _ _ _ c.loop-left.invariant (omega (arith, c.loop-left-test.false))
