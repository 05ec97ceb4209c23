use Rattle.std.proofs.Common.{◌≡◌, length, map, refl, arith, sym, ◌∙◌, ap, subst, true}
use Rattle.std.proofs.lemmas.List.{length-map}
use Rattle.std.proofs.lemmas.Option.{slice_get_read}
use Rattle.dps_terms.specs.Seen.{seen}
use Rattle.dps_theory.specs.Theory.{Rule, HasDestructorRoot}
use Rattle.dps_theory.specs.Held.{shape_of}
use Rattle.dps_theory.specs.Index.{has_root}
use Rattle.dps_theory.proofs.Accepting.{first_fault, refused_overlap, judged_next, root_from_view, root_within, same_element}
use Rattle.dps_theory.proofs.check.judge_rule.Goals as goal

pub returns-in-Some-clause-refused : goal.returns-in-Some-clause-refused
returns-in-Some-clause-refused c =
    let here = slice_get_read c.args.rules.now (length c.args.rules.now) _ _ refl c.requires.inside c.index-rules-place.is in
    first_fault (map shape_of c.args.known.now) c.args.rules.now c.args.place c.requires.judged c.index-rules-place.result here c.in-Some.fault c.in-Some.ensures

pub earlier_overlap-requires-clause-listed : goal.earlier_overlap-requires-clause-listed
earlier_overlap-requires-clause-listed c =
    let here = slice_get_read c.args.rules.now (length c.args.rules.now) _ _ refl c.requires.inside c.index-rules-place.is in
    let root : has_root c.in-App.root.number c.index-rules-place.result.left ≡ true = rw (← c.rule.view_is, ← c.whole.ensures) (root_from_view (seen c.whole.result) c.in-App.root c.in-App.ensures) in (
      c.in-App.root.number,
      λ q e. subst (λ (r : Rule). has_root c.in-App.root.number r.left ≡ true) (same_element c.args.rules.now c.args.place c.index-rules-place.result q here e) root,
      c.of.ensures ∙ c.requires.indexed c.in-App.root.number,
    )

pub overflow_add-result : goal.overflow_add-result
overflow_add-result c =
    let here = slice_get_read c.args.rules.now (length c.args.rules.now) _ _ refl c.requires.inside c.index-rules-place.is in
    let found = (rw c.in-Ok-Some.field-0-is at c.in-Ok-Some.ensures) c.index-rules-place.result here in
    let before = found.before in
    omega (arith, before, c.requires.few, c.requires.inside)

pub returns-in-Ok-None-clause-judged : goal.returns-in-Ok-None-clause-judged
returns-in-Ok-None-clause-judged c =
    let here = slice_get_read c.args.rules.now (length c.args.rules.now) _ _ refl c.requires.inside c.index-rules-place.is in
    judged_next (map shape_of c.args.known.now) c.args.rules.now c.args.place c.requires.judged c.index-rules-place.result here c.in_default.ensures
    ((rw c.in-Ok-None.field-0-is at c.in-Ok-None.ensures) c.index-rules-place.result here)

pub returns-in-Ok-None-clause-root : goal.returns-in-Ok-None-clause-root
returns-in-Ok-None-clause-root c =
    let form = c.in_default.ensures in
    let same = c.whole.ensures ∙ ap (λ (r : Rule). r.left) c.rule.view_is in
    let l = root_within (map shape_of c.args.known.now) (seen c.whole.result) c.in-App.root c.in-App.ensures (subst (HasDestructorRoot (map shape_of c.args.known.now)) (sym same) form.root) in
    omega (arith, l, length-map c.args.known.now shape_of)

pub returns-in-Ok-None-clause-indexed : goal.returns-in-Ok-None-clause-indexed
returns-in-Ok-None-clause-indexed c = λ q e.
    let here = slice_get_read c.args.rules.now (length c.args.rules.now) _ _ refl c.requires.inside c.index-rules-place.is in
    let root : has_root c.in-App.root.number c.index-rules-place.result.left ≡ true = rw (← c.rule.view_is, ← c.whole.ensures) (root_from_view (seen c.whole.result) c.in-App.root c.in-App.ensures) in
    subst (λ (r : Rule). has_root c.in-App.root.number r.left ≡ true) (same_element c.args.rules.now c.args.place c.index-rules-place.result q here e) root

pub returns-in-Ok-Some-clause-refused : goal.returns-in-Ok-Some-clause-refused
returns-in-Ok-Some-clause-refused c =
    let here = slice_get_read c.args.rules.now (length c.args.rules.now) _ _ refl c.requires.inside c.index-rules-place.is in
    refused_overlap (map shape_of c.args.known.now) c.args.rules.now c.args.place c.requires.judged c.index-rules-place.result here c.in-Ok-Some.found.earlier c.in-Ok-Some.found.unifier c.in_default.ensures
    ((rw c.in-Ok-Some.field-0-is at c.in-Ok-Some.ensures) c.index-rules-place.result here)
