use Rattle.std.proofs.Common.{◌≡◌, ◌+◌, ◌≤◌, ◌∷◌, ◌++◌, [], length, take, reverse, ap, sym, ◌∙◌, subst, arith, refl}
use Rattle.std.proofs.lemmas.List.{take_more, take_all}
use Rattle.std.proofs.lemmas.Option.{slice_get_within, get_or_from_slice_get}
use Rattle.dps_terms.specs.declared.borrowed.TermView.TheVariants.{App}
use Rattle.dps_terms.specs.Views.{arguments}
use Rattle.dps_terms.specs.Seen.{seen}
use Rattle.dps_static.specs.declared.build.Step.TheVariants.{Apply}
use Rattle.dps_static.proofs.Taking.{IsOpening, opened, opened_further, all_opened}
use Rattle.dps_static.proofs.build.put_composed.Goals as goal

pub loop-index-init : goal.loop-index-init
loop-index-init c =
    λ f v.
    let steps = c.args.steps.now.items in
    let arity = length (arguments (seen c.args.tree)) in
    let both : App c.in-App.sym ≡ App f = c.in-App.ensures ∙ sym v in
    let same : c.in-App.sym ≡ f = cc in
    let is : c.push.new.self.items ≡ steps ++ Apply f arity ∷ [] = c.in_ok-push-in-App.ensures.ok ∙ (λ i. steps ++ Apply (same i) (c.arity.ensures.number i) ∷ []) in
    subst (λ now. IsOpening steps f arity [] (reverse now)) (sym is) (opened steps f arity)

pub loop-index-preserved : goal.loop-index-preserved
loop-index-preserved c =
    λ f v.
    let steps = c.args.steps.now.items in
    let ts = arguments (seen c.args.tree) in
    let i = c.loop-index.index in
    let t = seen c.argument.result in
    let more : take (i + 1) ts ≡ take i ts ++ t ∷ [] =
    take_more ts i t (slice_get_within ts i t c.argument.ensures) ∙ ap (λ u. take i ts ++ u ∷ []) (get_or_from_slice_get ts i t t c.argument.ensures) in
    subst (λ us. IsOpening steps f (length ts) us (reverse c.push-in-loop-index.new.self.items)) (sym more)
    (subst (λ now. IsOpening steps f (length ts) (take i ts ++ t ∷ []) (reverse now)) (sym c.in_ok-push-in-App-2.ensures.ok)
    (opened_further steps c.loop-index.steps.items f (length ts) (take i ts) c.argument.result (c.loop-index.invariant f v)))

pub returns-after-loop-index : goal.returns-after-loop-index
returns-after-loop-index c =
    λ kept.
    let steps = c.args.steps.now.items in
    let ts = arguments (seen c.args.tree) in
    let few : length ts ≤ 8 = omega (arith, c.arity.ensures.number, c.arity.ensures.few) in
    let all : take c.loop-index.index ts ≡ ts = take_all c.loop-index.index ts (omega (arith, c.arity-index-end.ensures.number, c.loop-index-test.false)) in
    all_opened kept steps c.loop-index.steps.items c.in-App.sym (length ts) (seen c.args.tree) c.args.stack.now c.in-App.ensures refl few
    (subst (λ us. IsOpening steps c.in-App.sym (length ts) us (reverse c.loop-index.steps.items)) all (c.loop-index.invariant c.in-App.sym c.in-App.ensures))
