use Rattle.std.proofs.Common.{◌≡◌, ◌∙◌, ◌<◌, ◌-◌, ◌∷◌, refl, ap, sym, subst, arith, length, drop}
use Rattle.std.specs.Prelude.{reverse}
use Rattle.std.proofs.lemmas.Result.{on_ok_weaker}
use Rattle.dps_terms.specs.Tree.{leaf, var, node_count}
use Rattle.dps_terms.specs.Replace.{substitute}
use Rattle.dps_terms.specs.Seen.{seen}
use Rattle.dps_terms.specs.Views.{arguments}
use Rattle.dps_unify.specs.Chain.{solved}
use Rattle.dps_unify.specs.Places.{Finishes}
use Rattle.dps_unify.specs.declared.place.Place.{Place}
use Rattle.dps_unify.proofs.Solving.{applied_next}
use Rattle.dps_unify.proofs.Trees.{var_from_view}
use Rattle.dps_unify.proofs.Following.{before, made, enter, last_first}
use Rattle.dps_unify.proofs.solution.go_on.Goals as goal

pub returns-in-App : goal.returns-in-App
returns-in-App c = λ whole h.
    let z = solved c.args.bindings.now in
    let p = c.args.place in
    let q : Place = record { term = p.term; left = p.left - 1 } in
    let ps = reverse c.args.places.now.items in
    let s = seen c.subterm-part.result in
    let some : 0 < p.left = omega (arith, c.if-left-eq0.false) in
    let ready = made (substitute z) p ps c.args.stack.now s whole some c.subterm-part.ensures.below h in
    on_ok_weaker c.apply.result
    (λ e. subst (λ qs. Finishes (substitute z) qs c.apply.new.self whole) (sym (last_first c.args.places.now.items c.push.new.self.items q c.in_ok-push.ensures.items))
    (before (substitute z) p q ps c.args.stack.now c.apply.new.self s whole refl refl some c.subterm-part.ensures.first c.subterm-part.ensures.below
    (e ∙ applied_next z s c.in-App.sym c.arity.result c.args.stack.now c.in-App.ensures c.arity.ensures.number ready.1) h))
    c.apply.ensures.ok

pub returns-in-Some : goal.returns-in-Some
returns-in-Some c = λ whole h.
    let z = solved c.args.bindings.now in
    let p = c.args.place in
    let q : Place = record { term = p.term; left = p.left - 1 } in
    let old = c.args.places.now.items in
    let s = seen c.subterm-part.result in
    let stack = c.args.stack.now in
    let is_variable : s ≡ leaf (var c.in-Var.number) = var_from_view s c.in-Var.number (sym c.in-Var.ensures) in
    let becomes : substitute z s ≡ substitute z (seen c.in-Some.bound) = ap (substitute z) is_variable ∙ c.requires.chain.fulfilled c.in-Var.number (seen c.in-Some.bound) (sym c.in-Some.ensures) in
    let some : 0 < p.left = omega (arith, c.if-left-eq0.false) in
    let on = before (substitute z) p q (reverse old) stack (substitute z s ∷ stack) s whole refl refl some c.subterm-part.ensures.first c.subterm-part.ensures.below
    (ap (λ t. substitute z s ∷ drop (length (arguments t)) stack) (sym is_variable)) h in
    on_ok_weaker c.put_behind.result
    (λ k. subst (λ qs. Finishes (substitute z) qs stack whole)
    (sym (last_first c.push.new.self.items c.put_behind.new.places.items k.place k.new_is ∙ ap (λ ws. k.place ∷ ws) (last_first old c.push.new.self.items q c.in_ok-push.ensures.items)))
    (enter (substitute z) k.place (q ∷ reverse old) stack (substitute z s) whole k.none (omega (arith, k.inside, ap node_count k.term)) (ap (substitute z) k.term ∙ sym becomes) on))
    c.put_behind.ensures
