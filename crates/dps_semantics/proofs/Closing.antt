-- What a term evaluates to is closed, and captures nothing.
use Rattle.std.proofs.Common.{◌≡◌, ℕ, [], ◌∷◌, subst, Option, Some, None}
use Rattle.std.specs.Prelude.{Bool, true, false, cond, nat_eq, MatchOption}
use Rattle.std.proofs.lemmas.Option.{none-some}
use Rattle.dps_terms.specs.Tree.{Leaf, public, private, var, ax, entry, rigid, Tree, StandsIn}
use Rattle.dps_signature.specs.Signature.{HasShape}
use Rattle.dps_signature.specs.declared.SymKind.TheVariants.{Constructor}
use Rattle.dps_terms.specs.Kinds.{IsName, IsNoVariable, AnySymbol, IsClosed}
use Rattle.dps_terms.proofs.Building.{leaf_meets, built_of}
use Rattle.dps_theory.specs.Theory.{Theory, IsAccepted, HasPlainRules}
use Rattle.dps_theory.specs.Evaluation.{Evaluates, IsMessage}
use Rattle.dps_theory.proofs.Evaluating.{value_plain}
use Rattle.dps_process.specs.Process.{Process, nil, parallel, choice, conditional, bind, input, output, EachBinder}
use Rattle.dps_process.specs.Binders.{CapturesNone}

name_no_variable : (x : Leaf) → IsName x → IsNoVariable x
name_no_variable (public n) h = tt
name_no_variable (private n) h = tt
name_no_variable (var n) h = h
name_no_variable (ax n) h = tt
name_no_variable (entry n) h = tt
name_no_variable (rigid n) h = tt

pub value_closed : (theory : Theory) (t v : Tree) → IsAccepted theory → HasPlainRules theory → Evaluates theory t v → IsClosed v
value_closed theory t v accepted plain e =
    let p = value_plain theory accepted plain e in
    built_of IsNoVariable AnySymbol v (λ x k. name_no_variable x (leaf_meets IsName (HasShape theory.shapes Constructor) p k)) (λ f ts k. tt)

pub closed_some : (theory : Theory) (t v : Tree) (o : Option Tree) → IsAccepted theory → HasPlainRules theory → MatchOption o (¬ IsMessage theory t) (λ w. Evaluates theory t w)
    → o ≡ Some v → IsClosed v
closed_some theory t v o accepted plain m e =
    value_closed theory t v accepted plain (subst (λ (x : Option Tree). MatchOption x (¬ IsMessage theory t) (λ w. Evaluates theory t w)) e m)

each_binder : (P : ℕ → Type 0) → ((y : ℕ) → P y) → (p : Process) → EachBinder P p
each_binder P h nil = tt
each_binder P h (parallel p q) = (each_binder P h p, each_binder P h q)
each_binder P h (choice p q) = (each_binder P h p, each_binder P h q)
each_binder P h (conditional u v p q) = (each_binder P h p, each_binder P h q)
each_binder P h (bind x u p q) = (h x, each_binder P h p, each_binder P h q)
each_binder P h (input c x p) = (h x, each_binder P h p)
each_binder P h (output c u p) = each_binder P h p

only_one : (b : Bool) (t u : Tree) → cond b (Some t) None ≡ Some u → t ≡ u
only_one true t u e = cc
only_one false t u e = absurd (none-some u e)

no_variable_in : (t : Tree) → IsClosed t → (y : ℕ) → ¬ StandsIn (var y) t
no_variable_in t h y s = leaf_meets IsNoVariable AnySymbol h s

-- a closed term for a variable captures nothing
pub captures_none : (x : ℕ) (t : Tree) (p : Process) → IsClosed t → CapturesNone ((x, t) ∷ []) p
captures_none x t p h y u e =
    let same = only_one (nat_eq y x) t u e in
    each_binder (λ z. ¬ StandsIn (var z) u) (λ z. subst (λ (v : Tree). ¬ StandsIn (var z) v) same (no_variable_in t h z)) p
