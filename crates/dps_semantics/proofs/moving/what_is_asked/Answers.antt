use Rattle.std.proofs.Common.{refl, sym, subst}
use Rattle.dps_terms.specs.Tree.{Tree}
use Rattle.dps_theory.specs.Theory.{Theory, IsAccepted, HasPlainRules}
use Rattle.dps_theory.specs.Frames.{HasValue}
use Rattle.dps_terms.specs.Replace.{in_frame}
use Rattle.dps_process.specs.Labels.{label_of}
use Rattle.dps_process.specs.Steps.{inputs}
use Rattle.dps_process.specs.declared.label.Label.{Label as LabelValue}
use Rattle.dps_semantics.specs.Asking.{IsAsked}
use Rattle.dps_semantics.specs.declared.moving.Asked.TheVariants.{Input}
use Rattle.dps_semantics.proofs.Lists.{of_some}
use Rattle.dps_semantics.proofs.Closing.{value_closed}
use Rattle.dps_semantics.proofs.moving.what_is_asked.Goals as goal

pub returns-in-Some-clause-asked : goal.returns-in-Some-clause-asked
returns-in-Some-clause-asked c =
    let frame = c.args.frame.now in
    let recipe = c.in-In.recipe in
    let value = of_some _ (λ (t : Tree). HasValue c.theory.result.now frame recipe t) c.in_ok-message-in-In.field-0 c.in-Some.message c.in_ok-message-in-In.ensures c.in-Some.is in
    let asked : IsAsked c.args.problem.now frame (inputs c.in-In.channel recipe) (Input c.in-In.channel c.in-Some.message) = (
      refl,
      rw c.signature-signature.ensures.signature at c.is_public.ensures.0 c.if-not-is_public.false,
      rw (c.signature-signature.ensures.signature, c.message_count.ensures) at c.is_recipe.ensures.0 c.if-not-is_recipe.false,
      subst (λ (th : Theory). HasValue th frame recipe c.in-Some.message) c.theory.ensures.theory value,
    ) in
    subst (λ (l : LabelValue). IsAsked c.args.problem.now frame (label_of l) (Input c.in-In.channel c.in-Some.message)) (sym c.in-In.is) asked

pub returns-in-Some-clause-closed : goal.returns-in-Some-clause-closed
returns-in-Some-clause-closed c =
    let frame = c.args.frame.now in
    let recipe = c.in-In.recipe in
    let value = of_some _ (λ (t : Tree). HasValue c.theory.result.now frame recipe t) c.in_ok-message-in-In.field-0 c.in-Some.message c.in_ok-message-in-In.ensures c.in-Some.is in
    let accepted = subst IsAccepted (sym c.theory.ensures.theory) c.theory.ensures.lawful.theory.accepted in
    let plain = subst HasPlainRules (sym c.theory.ensures.theory) c.theory.ensures.lawful.theory.rules_plain in
    value_closed c.theory.result.now (in_frame frame recipe) c.in-Some.message accepted plain value
