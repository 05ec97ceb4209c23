use Rattle.std.proofs.Common.{◌≡◌, ◌∙◌, subst}
use Rattle.dps_static.specs.Ways.{Builds, IsNotBuilt}
use Rattle.dps_static.specs.Saturation.{IsSaturation}
use Rattle.dps_static.proofs.Deducing.{built_deduced, not_built}
use Rattle.dps_static.proofs.deduce.Goals as goal

pub returns-in-Some : goal.returns-in-Some
returns-in-Some c = λ signature common is_message.
    let e : c.deref.result.now ≡ c.args.frame.now = c.deref.ensures.value ∙ c.frame.view_is in
    let s : IsSaturation c.args.theory.now c.args.frame.now c.in_ok-knowledge.knowledge.recipes.items c.in_ok-knowledge.knowledge.kept =
    subst (λ f. IsSaturation c.args.theory.now f c.in_ok-knowledge.knowledge.recipes.items c.in_ok-knowledge.knowledge.kept) e c.in_ok-knowledge.ensures.saturation in
    let b : Builds c.in_ok-knowledge.knowledge.kept c.args.message.now c.in-Some.found = rw (c.in-Some.is, c.whole.ensures) at c.in_ok-found.ensures in
    rw (c.in_ok-recipe-in-Some.ensures, c.deref-in-Some.ensures.value, c.whole-in-Some.ensures)
    (built_deduced c.args.theory.now c.is_lawful.ensures.accepted c.is_lawful.ensures.plain c.args.frame.now c.in_ok-knowledge.knowledge.recipes.items c.in_ok-knowledge.knowledge.kept s
    c.args.message.now signature common is_message c.in-Some.found b)

pub returns : goal.returns
returns c = λ signature common is_message.
    let e : c.deref.result.now ≡ c.args.frame.now = c.deref.ensures.value ∙ c.frame.view_is in
    let s : IsSaturation c.args.theory.now c.args.frame.now c.in_ok-knowledge.knowledge.recipes.items c.in_ok-knowledge.knowledge.kept =
    subst (λ f. IsSaturation c.args.theory.now f c.in_ok-knowledge.knowledge.recipes.items c.in_ok-knowledge.knowledge.kept) e c.in_ok-knowledge.ensures.saturation in
    let b : IsNotBuilt c.in_ok-knowledge.knowledge.kept c.args.message.now = rw (c.in-None.is, c.whole.ensures) at c.in_ok-found.ensures in
    not_built c.args.theory.now c.is_lawful.ensures.accepted c.is_lawful.ensures.plain c.args.frame.now c.in_ok-knowledge.knowledge.recipes.items c.in_ok-knowledge.knowledge.kept s
    c.args.message.now signature common is_message b
