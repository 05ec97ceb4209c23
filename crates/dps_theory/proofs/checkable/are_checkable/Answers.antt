use Rattle.std.proofs.Common.{arith, ◌∙◌}
use Rattle.dps_theory.proofs.CheckableRules.{all_checkable}
use Rattle.dps_theory.proofs.checkable.are_checkable.Goals as goal

pub returns : goal.returns
returns c =
    let there = c.in_ok-has_projections.ensures.0 c.if-not-branch.false in
    let both = all_checkable c.args.signature.now c.args.rules.now (omega (arith, c.if-rules.false)) there in
    let each = rw (c.deref.ensures.value ∙ c.in_ok-known.ensures) at c.all_are_checkable-all.ensures in
    (λ e. both.0 (each.0 e), λ h. each.1 (both.1 h))
