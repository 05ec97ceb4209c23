use Rattle.std.proofs.Common.{◌≡◌, ◌∙◌, arith, refl, sym, true, false}
use Rattle.dps_theory.specs.Checkable.{HasProjectionsOf}
use Rattle.dps_theory.proofs.CheckableRules.{up_to_next, all_projections, projections_of_length}
use Rattle.dps_theory.proofs.checkable.has_projections.Goals as goal

pub returns-then-not-branch : goal.returns-then-not-branch
returns-then-not-branch c = (
  λ e. cc,
  λ h. let e : false ≡ true = sym c.if-not-branch.true ∙ c.in_ok-has_projections_of.ensures.1 (projections_of_length c.args.signature.now c.loop-length.length c.loop-length.auto.length (omega (arith, c.loop-length-test.true, c.loop-length.auto.length-end)) h) in cc,
)

pub loop-length-preserved : goal.loop-length-preserved
loop-length-preserved c =
    up_to_next (HasProjectionsOf c.args.signature.now) 2 c.loop-length.length c.loop-length.invariant
    (c.in_ok-has_projections_of.ensures.0 c.if-not-branch.false)

pub returns : goal.returns
returns c = (
  λ _. all_projections c.args.signature.now (λ n low high. c.loop-length.invariant n low (omega (arith, high, c.loop-length.auto.length-end))),
  λ _. refl,
)
