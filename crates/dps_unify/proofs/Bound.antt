-- What is bound, in a list of pairs: behind one more pair, and where the terms are borrowed.
use Rattle.std.proofs.Common.{◌≡◌, ℕ, List, [], ◌∷◌, ◌++◌, Bool, true, false, cond, nat_eq, map, Option, Some, None, refl, sym, ◌∙◌, ap, ◌⊎◌, inl, inr}
use Rattle.std.specs.Prelude.{unwrap_or}
use Rattle.std.specs.Option.{option_map}
use Rattle.std.specs.Map.{lookup}
use Rattle.std.proofs.lemmas.Bool.{cases_Bool, eqb-true, eq-eqb}
use Rattle.dps_terms.specs.Tree.{var, Tree, leaf}
use Rattle.dps_terms.specs.Bindings.{bound, image}

pub cases_option : (o : Option Tree) → (o ≡ None) ⊎ ((t : Tree) × (o ≡ Some t))
cases_option None = inl refl
cases_option (Some t) = inr (t, refl)

at_cond : {X : Type 0} (f : X → Tree) (b : Bool) (x : X) (o : Option X) (q : Option Tree) → q ≡ option_map f o → cond b (Some (f x)) q ≡ option_map f (cond b (Some x) o)
at_cond f true x o q e = refl
at_cond f false x o q e = e

-- the terms of pairs, seen by a function
pub bound-map : {X : Type 0} (f : X → Tree) (es : List (ℕ × X)) (n : ℕ) → bound (map (λ e. (e.0, f e.1)) es) n ≡ option_map f (lookup (nat_eq n) es)
bound-map f [] n = refl
bound-map f (e ∷ es) n = at_cond f (nat_eq n e.0) e.1 (lookup (nat_eq n) es) (bound (map (λ e. (e.0, f e.1)) es) n) (bound-map f es n)

none_before : {X : Type 0} (f : X → Tree) (o : Option X) → option_map f o ≡ None → o ≡ None
none_before f None e = refl
none_before f (Some x) e = cc

pub absent-map : {X : Type 0} (f : X → Tree) (es : List (ℕ × X)) (n : ℕ) → bound (map (λ e. (e.0, f e.1)) es) n ≡ None → lookup (nat_eq n) es ≡ None
absent-map f es n h = none_before f (lookup (nat_eq n) es) (sym (bound-map f es n) ∙ h)

-- one pair
abbrev pub single : ℕ → Tree → List (ℕ × Tree)
single x t = (x, t) ∷ []

pub single_here : (x : ℕ) (t : Tree) → bound (single x t) x ≡ Some t
single_here x t = ap (λ b. cond b (Some t) None) (eq-eqb x x refl)

pub single_cases : (x : ℕ) (t : Tree) (n : ℕ) → ((n ≡ x) × (bound (single x t) n ≡ Some t)) ⊎ ((n ≡ x → ⊥) × (bound (single x t) n ≡ None))
single_cases x t n =
    elim (cases_Bool (nat_eq n x)) [
      | inl e ↦ inl (eqb-true n x e, ap (λ b. cond b (Some t) None) e)
      | inr e ↦ inr (λ d. let k = eq-eqb n x d in cc, ap (λ b. cond b (Some t) None) e)
    ]

-- one more pair at the end
keep_some : (b : Bool) (t w : Tree) (o q : Option Tree) → (o ≡ Some w → q ≡ Some w) → cond b (Some t) o ≡ Some w → cond b (Some t) q ≡ Some w
keep_some true t w o q h e = e
keep_some false t w o q h e = h e

pub bound-push_some : (s : List (ℕ × Tree)) (p : ℕ × Tree) (n : ℕ) (w : Tree) → bound s n ≡ Some w → bound (s ++ p ∷ []) n ≡ Some w
bound-push_some [] p n w e = cc
bound-push_some (q ∷ s) p n w e = keep_some (nat_eq n q.0) q.1 w (bound s n) (bound (s ++ p ∷ []) n) (bound-push_some s p n w) e

pass_none : (b : Bool) (t : Tree) (o q r : Option Tree) → (o ≡ None → q ≡ r) → cond b (Some t) o ≡ None → cond b (Some t) q ≡ r
pass_none true t o q r h e = cc
pass_none false t o q r h e = h e

pub bound-push_none : (s : List (ℕ × Tree)) (p : ℕ × Tree) (n : ℕ) → bound s n ≡ None → bound (s ++ p ∷ []) n ≡ bound (p ∷ []) n
bound-push_none [] p n e = refl
bound-push_none (q ∷ s) p n e = pass_none (nat_eq n q.0) q.1 (bound s n) (bound (s ++ p ∷ []) n) (bound (p ∷ []) n) (bound-push_none s p n) e

-- what a variable becomes
pub image_none : (s : List (ℕ × Tree)) (n : ℕ) → bound s n ≡ None → image s n ≡ leaf (var n)
image_none s n e = ap (λ o. unwrap_or o (leaf (var n))) e

pub image_some : (s : List (ℕ × Tree)) (n : ℕ) (w : Tree) → bound s n ≡ Some w → image s n ≡ w
image_some s n w e = ap (λ o. unwrap_or o (leaf (var n))) e
