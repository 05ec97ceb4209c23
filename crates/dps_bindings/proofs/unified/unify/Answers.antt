use Rattle.std.proofs.Common.{ℕ, List, Option, Contains, ap, sym, subst, ◌∙◌}
use Rattle.std.specs.Prelude.{MatchOption}
use Rattle.dps_terms.specs.Tree.{Tree}
use Rattle.dps_terms.specs.Bindings.{image}
use Rattle.dps_unify.specs.Unifier.{IsMgu, IsNotUnifiable}
use Rattle.dps_bindings.proofs.Newly.{moved_is_bound}
use Rattle.dps_bindings.proofs.unified.unify.Goals as goal

pub then-requires : goal.then-requires
then-requires c = λ n t e.
    let mgu = subst (λ (o : Option (List (ℕ × Tree))). MatchOption o (IsNotUnifiable c.args.pairs.now) (IsMgu c.args.order.now.levels.items c.args.pairs.now)) c.in-Some.is c.in_ok-unifier.ensures in
    subst (λ (xs : List ℕ). Contains xs n) (sym c.deref.ensures.value) (c.in_ok-variables-in-Some.ensures.all n (mgu.binds n t e))

pub newly_bound-requires-clause-all : goal.newly_bound-requires-clause-all
newly_bound-requires-clause-all c = λ n e moved.
    let mgu = subst (λ (o : Option (List (ℕ × Tree))). MatchOption o (IsNotUnifiable c.args.pairs.now) (IsMgu c.args.order.now.levels.items c.args.pairs.now)) c.in-Some.is c.in_ok-unifier.ensures in
    let at = moved_is_bound c.in-Some.unifier (image c.args.before.now) n e (λ f. moved (ap (λ (z : ℕ → Tree). z n) c.in_ok-theta-in-Some.ensures ∙ f)) in
    subst (λ (xs : List ℕ). Contains xs n) (sym c.deref-in-Some.ensures.value) (c.in_ok-variables-in-Some.ensures.all n (mgu.binds n at.0 at.1))

pub returns-in_ok-bound-in-Some : goal.returns-in_ok-bound-in-Some
returns-in_ok-bound-in-Some c = record {
  unifier = c.in-Some.unifier;
  is = subst (λ (o : Option (List (ℕ × Tree))). MatchOption o (IsNotUnifiable c.args.pairs.now) (IsMgu c.args.order.now.levels.items c.args.pairs.now)) c.in-Some.is c.in_ok-unifier.ensures;
  becomes = c.in_ok-theta-in-Some.ensures;
  newly = c.in_ok-bound-in-Some.ensures;
}
