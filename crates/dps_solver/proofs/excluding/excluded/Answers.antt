use Rattle.std.proofs.Common.{◌≡◌, ◌∙◌, ap, sym, refl, true, false, Some}
use Rattle.std.proofs.lemmas.Option.{slice_get-get_or}
use Rattle.dps_terms.specs.Bindings.{image}
use Rattle.dps_solver.specs.declared.scene.Disequation.{Disequation}
use Rattle.dps_solver.specs.Solutions.{IsMatchedUnder}
use Rattle.dps_solver.specs.Code.{disequation_of}
use Rattle.dps_solver.proofs.Each.{first_more, some_any_of, none_any_of}
use Rattle.dps_solver.proofs.excluding.excluded.Goals as goal

pub loop-disequation-preserved : goal.loop-disequation-preserved
loop-disequation-preserved c =
    let i = c.loop-disequation.disequation-index in
    let one = c.disequation-item.result in
    let there = slice_get-get_or c.args.disequations.now i one c.loop-disequation-test.true ∙ ap Some (sym c.disequation-item.is) in
    first_more (λ (d : Disequation). ¬ IsMatchedUnder (image c.args.bindings.now) (disequation_of d)) c.args.disequations.now i one c.loop-disequation.invariant there
    (λ m. let d : false ≡ true = sym c.if-branch.false ∙ c.in_ok-is_matched.ensures.1 m in cc)

pub returns-then-branch : goal.returns-then-branch
returns-then-branch c =
    let i = c.loop-disequation.disequation-index in
    let one = c.disequation-item.result in
    let there = slice_get-get_or c.args.disequations.now i one c.loop-disequation-test.true ∙ ap Some (sym c.disequation-item.is) in (
      λ _. some_any_of disequation_of (λ d. IsMatchedUnder (image c.args.bindings.now) d) c.args.disequations.now i one there (c.in_ok-is_matched.ensures.0 c.if-branch.true),
      λ _. refl,
    )

pub returns : goal.returns
returns c = (
  λ e. cc,
  λ a. absurd (none_any_of disequation_of (λ d. IsMatchedUnder (image c.args.bindings.now) d) c.args.disequations.now c.loop-disequation.disequation-index
      c.loop-disequation.invariant c.loop-disequation-test.false a),
)
