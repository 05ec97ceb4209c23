use Rattle.std.proofs.Common.{◌∙◌, ap, sym, refl, subst, Some, map}
use Rattle.std.proofs.lemmas.Option.{slice_get-get_or}
use Rattle.dps_terms.specs.Tree.{Tree}
use Rattle.dps_terms.specs.Bindings.{image}
use Rattle.dps_terms.specs.Replace.{substitute}
use Rattle.dps_unify.specs.Matching.{Matched, Refused}
use Rattle.dps_solver.specs.Solutions.{IsMatched}
use Rattle.dps_solver.proofs.Matching.{matched_of, refused_of, solved_more, not_solved, is_solved}
use Rattle.dps_solver.proofs.excluding.is_matched.Goals as goal

pub loop-pair-preserved : goal.loop-pair-preserved
loop-pair-preserved c =
    let z = image c.args.bindings.now in
    let pairs = c.deref-pair-items.result.now in
    let i = c.loop-pair.pair-index in
    let one = c.pair-item.result in
    let there = slice_get-get_or pairs i one c.loop-pair-test.true ∙ ap Some (sym c.pair-item.is) in
    let step = matched_of c.in_ok-extends.field-0 c.deref.result.now c.loop-pair.solution (substitute z one.1) (substitute z one.0) c.extends.new.solution
    c.if-not-branch.false c.in_ok-extends.ensures in
    solved_more c.args.disequation.now.free.items z pairs i c.loop-pair.solution c.extends.new.solution one c.loop-pair.invariant there
    (subst (λ f. Matched f c.loop-pair.solution (substitute z one.1) (substitute z one.0) c.extends.new.solution) c.deref.ensures.value step)

pub returns-then-not-branch : goal.returns-then-not-branch
returns-then-not-branch c =
    let z = image c.args.bindings.now in
    let pairs = c.deref-pair-items.result.now in
    let i = c.loop-pair.pair-index in
    let one = c.pair-item.result in
    let there = slice_get-get_or pairs i one c.loop-pair-test.true ∙ ap Some (sym c.pair-item.is) in
    let step = refused_of c.in_ok-extends.field-0 c.deref.result.now c.loop-pair.solution (substitute z one.1) (substitute z one.0) c.extends.new.solution
    c.if-not-branch.true c.in_ok-extends.ensures in
    let free = c.args.disequation.now.free.items in
    let refused = subst (λ f. Refused f c.loop-pair.solution (substitute z one.1) (substitute z one.0)) c.deref.ensures.value step in (
      λ e. cc,
      λ m. absurd (not_solved free z pairs i c.loop-pair.solution c.extends.new.solution one c.loop-pair.invariant there refused
          (subst (λ ps. IsMatched free (map (λ (p : Tree × Tree). (substitute z p.0, substitute z p.1)) ps)) (sym c.deref-pair-items.ensures.value) m)),
    )

pub returns : goal.returns
returns c =
    let z = image c.args.bindings.now in
    let free = c.args.disequation.now.free.items in (
      λ _. subst (λ ps. IsMatched free (map (λ (p : Tree × Tree). (substitute z p.0, substitute z p.1)) ps)) c.deref-pair-items.ensures.value
          (is_solved free z c.deref-pair-items.result.now c.loop-pair.pair-index c.loop-pair.solution c.loop-pair.invariant c.loop-pair-test.false),
      λ _. refl,
    )
