use Rattle.std.proofs.Common.{◌≡◌, ◌∙◌, ap, sym, refl, true, false, Some}
use Rattle.std.proofs.lemmas.Option.{slice_get-get_or}
use Rattle.dps_terms.specs.Tree.{Tree}
use Rattle.dps_terms.specs.Bindings.{image}
use Rattle.dps_terms.specs.Replace.{substitute}
use Rattle.dps_know.specs.Know.{IsNormal}
use Rattle.dps_solver.proofs.Each.{first_more}
use Rattle.dps_search.proofs.Finished.{all_first, not_all}
use Rattle.dps_search.proofs.finishing.are_normal.Goals as goal

pub loop-label-preserved : goal.loop-label-preserved
loop-label-preserved c =
    let i = c.loop-label.label-index in
    let one = c.label-item.result in
    let there = slice_get-get_or c.args.labels.now i one c.loop-label-test.true ∙ ap Some (sym c.label-item.is) in
    first_more (λ (t : Tree). IsNormal c.args.recorded.now (substitute (image c.args.bindings.now) t)) c.args.labels.now i one c.loop-label.invariant there
    (c.in_ok-is_normal_under.ensures.0 c.if-not-branch.false)

pub returns-then-not-branch : goal.returns-then-not-branch
returns-then-not-branch c =
    let i = c.loop-label.label-index in
    let one = c.label-item.result in
    let there = slice_get-get_or c.args.labels.now i one c.loop-label-test.true ∙ ap Some (sym c.label-item.is) in (
      λ e. cc,
      λ all. absurd (not_all (λ (t : Tree). IsNormal c.args.recorded.now (substitute (image c.args.bindings.now) t)) c.args.labels.now i one there
          (λ n. let d : false ≡ true = sym c.if-not-branch.true ∙ c.in_ok-is_normal_under.ensures.1 n in cc) all),
    )

pub returns : goal.returns
returns c = (
  λ _. all_first (λ (t : Tree). IsNormal c.args.recorded.now (substitute (image c.args.bindings.now) t)) c.args.labels.now c.loop-label.label-index
      c.loop-label.invariant c.loop-label-test.false,
  λ _. refl,
)
