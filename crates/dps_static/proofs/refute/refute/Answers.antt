use Rattle.std.proofs.Common.{◌≡◌, ◌∙◌, subst}
use Rattle.dps_static.specs.Saturation.{IsSaturation, AreValuesOf}
use Rattle.dps_static.specs.Telling.{IsLost}
use Rattle.dps_static.proofs.Refuting.{refuted_by_lost, told_refutes}
use Rattle.dps_static.proofs.refute.refute.Goals as goal

pub returns-in-Lost : goal.returns-in-Lost
returns-in-Lost c =
    let e : c.deref.result.now ≡ c.args.first.now = c.deref.ensures.value ∙ c.first.view_is in
    let s : IsSaturation c.args.theory.now c.args.first.now c.in_ok-knowledge.knowledge.recipes.items c.in_ok-knowledge.knowledge.kept =
    subst (λ f. IsSaturation c.args.theory.now f c.in_ok-knowledge.knowledge.recipes.items c.in_ok-knowledge.knowledge.kept) e c.in_ok-knowledge.ensures.saturation in
    let l : IsLost c.args.theory.now c.args.second.now c.in_ok-knowledge.knowledge.recipes.items c.in-Lost.recipe = rw (c.in-Lost.is, c.deref-2.ensures.value) at c.in_ok-recipe.ensures in
    refuted_by_lost c.args.theory.now c.args.first.now c.args.second.now c.in_ok-knowledge.knowledge.recipes.items c.in_ok-knowledge.knowledge.kept s c.in-Lost.recipe l

pub returns : goal.returns
returns c =
    let e : c.deref.result.now ≡ c.args.first.now = c.deref.ensures.value ∙ c.first.view_is in
    let s : IsSaturation c.args.theory.now c.args.first.now c.in_ok-knowledge.knowledge.recipes.items c.in_ok-knowledge.knowledge.kept =
    subst (λ f. IsSaturation c.args.theory.now f c.in_ok-knowledge.knowledge.recipes.items c.in_ok-knowledge.knowledge.kept) e c.in_ok-knowledge.ensures.saturation in
    let v : AreValuesOf c.args.theory.now c.args.second.now c.in_ok-knowledge.knowledge.recipes.items c.in-Values.values.items = rw (c.in-Values.is, c.deref-2.ensures.value) at
    c.in_ok-recipe.ensures in
    told_refutes c.args.theory.now c.is_lawful.ensures.accepted c.is_lawful.ensures.plain c.args.first.now c.args.second.now c.requires.lengths c.in_ok-knowledge.knowledge.recipes.items
    c.in_ok-knowledge.knowledge.kept s c.in-Values.values.items v c.in_ok-knowledge.knowledge.uses.items c.in_ok-knowledge.ensures.uses c.in_ok-found-in-Values.found
    (rw c.deref-in-Values.ensures.value at c.in_ok-found-in-Values.ensures)
