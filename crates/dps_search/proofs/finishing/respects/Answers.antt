use Rattle.std.proofs.Common.{◌∙◌, List, IsTrue, sym, subst₂}
use Rattle.std.specs.Prelude.{◌↔◌, All, map}
use Rattle.dps_terms.specs.Tree.{Tree}
use Rattle.dps_terms.specs.Bindings.{image}
use Rattle.dps_terms.specs.Replace.{substitute}
use Rattle.dps_know.specs.Know.{IsNormal}
use Rattle.dps_solver.specs.Code.{disequation_of}
use Rattle.dps_solver.specs.declared.scene.Disequation.{Disequation}
use Rattle.dps_solver.specs.Matched.{IsExcluded}
use Rattle.dps_search.proofs.Finished.{none_matched, some_matched, not_iff}
use Rattle.dps_search.proofs.finishing.respects.Goals as goal

pub returns-then-not-branch : goal.returns-then-not-branch
returns-then-not-branch c =
    let z = image c.args.bindings.now in
    let labels = subst₂ (λ (rs : List Tree) (ls : List Tree). IsTrue c.in_ok-are_normal.field-0 ↔ All (λ (t : Tree). IsNormal rs (substitute z t)) ls)
    (c.deref.ensures.value ∙ c.in_ok-recorded.ensures) c.deref-2.ensures.value c.in_ok-are_normal.ensures in (
      λ e. cc,
      λ r. sym c.if-not-branch.true ∙ labels.1 r.labels,
    )

pub returns : goal.returns
returns c =
    let z = image c.args.bindings.now in
    let ds = map disequation_of c.args.scene.now.disequations.items in
    let labels = subst₂ (λ (rs : List Tree) (ls : List Tree). IsTrue c.in_ok-are_normal.field-0 ↔ All (λ (t : Tree). IsNormal rs (substitute z t)) ls)
    (c.deref.ensures.value ∙ c.in_ok-recorded.ensures) c.deref-2.ensures.value c.in_ok-are_normal.ensures in
    let matched = subst₂ (λ (es : List Disequation) (fs : List Disequation). IsTrue c.in_ok-matched.matched ↔ IsExcluded z (map disequation_of es))
    c.deref-3.ensures.value c.deref-3.ensures.value c.in_ok-matched.ensures in
    let not_matched = not_iff c.in_ok-matched.matched (IsExcluded z ds) matched in (
      λ e. record { labels = labels.0 c.if-not-branch.false; disequations = none_matched z ds (not_matched.0 e) },
      λ r. not_matched.1 (λ a. some_matched z ds a r.disequations),
    )
