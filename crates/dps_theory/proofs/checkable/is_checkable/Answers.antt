use Rattle.std.proofs.Common.{◌≡◌, ◌∙◌, sym, subst, true, false}
use Rattle.dps_theory.specs.Theory.{Rule}
use Rattle.dps_theory.specs.Checkable.{IsSide}
use Rattle.dps_theory.proofs.checkable.is_checkable.Goals as goal

pub returns-then-not-is_side-2 : goal.returns-then-not-is_side-2
returns-then-not-is_side-2 c = (
  λ e. cc,
  λ h. let right = subst (λ (r : Rule). IsSide c.args.signature.now r.right) (sym c.rule.view_is) h.right in
      let e : false ≡ true = sym c.if-not-is_side-2.true ∙ c.is_side-2.ensures.1 right in cc,
)
