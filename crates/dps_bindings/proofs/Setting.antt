-- A term in the place of another one.
use Rattle.std.proofs.Common.{◌≡◌, ℕ, zero, suc, Bool, true, false, cond, nat_eq, List, [], ◌∷◌, ◌++◌, slice_get, Option, Some, None, refl, sym, ◌∙◌, ap, inl, inr}
use Rattle.std.specs.Prelude.{unwrap_or}
use Rattle.std.proofs.Math.ListN.{set}
use Rattle.std.proofs.lemmas.Bool.{cases_Bool, eqb-true, eq-eqb}
use Rattle.std.proofs.lemmas.Option.{none-some}
use Rattle.dps_terms.specs.Tree.{var, Tree, leaf}
use Rattle.dps_terms.specs.Bindings.{bound, image, IsDistinct}
use Rattle.dps_bindings.specs.Putting.{image_with}

none_is : (t : Tree) → (let o : Option Tree = None in o) ≡ Some t → ⊥
none_is t e = cc

twice : (b : Bool) (o q r : Option Tree) → cond b o r ≡ cond b o (cond b q r)
twice true o q r = refl
twice false o q r = refl

swapped : (a b : Bool) (o q r : Option Tree) → (a ≡ true → b ≡ true → ⊥) → cond a o (cond b q r) ≡ cond b q (cond a o r)
swapped true true o q r h = absurd (h refl refl)
swapped true false o q r h = refl
swapped false true o q r h = refl
swapped false false o q r h = refl

imaged : (b : Bool) (t u : Tree) (o : Option Tree) → unwrap_or (cond b (Some t) o) u ≡ cond b t (unwrap_or o u)
imaged true t u o = refl
imaged false t u o = refl

module _ (x : ℕ) (u : Tree) where
  pub bound_there : (s : List (ℕ × Tree)) (i : ℕ) → slice_get s i ≡ Some (x, u) → IsDistinct s → bound s x ≡ Some u
  bound_there [] i e d = absurd (none-some (x, u) e)
  bound_there (p ∷ s) zero e d =
      let q : p ≡ (x, u) = cc in
      ap (λ b. cond b (Some p.1) (bound s x)) (eq-eqb x p.0 (λ j. (sym q j).0)) ∙ (λ j. Some (q j).1)
  bound_there (p ∷ s) (suc i) e d = elim (cases_Bool (nat_eq x p.0)) [
    | inl b ↦ absurd (none_is u (sym d.0 ∙ ap (bound s) (sym (eqb-true x p.0 b)) ∙ bound_there s i e d.1))
    | inr b ↦ ap (λ c. cond c (Some p.1) (bound s x)) b ∙ bound_there s i e d.1
  ]

  another : (s : List (ℕ × Tree)) (i n m : ℕ) → slice_get s i ≡ Some (x, u) → IsDistinct s → bound s n ≡ None → nat_eq m n ≡ true → nat_eq m x ≡ true → ⊥
  another s i n m e d free a b = none_is u (sym free ∙ ap (bound s) (sym (eqb-true m n a) ∙ eqb-true m x b) ∙ bound_there s i e d)

  module _ (t : Tree) where
    bound_set : (s : List (ℕ × Tree)) (i n : ℕ) → slice_get s i ≡ Some (x, u) → IsDistinct s → bound (set s i (x, t)) n ≡ cond (nat_eq n x) (Some t) (bound s n)
    bound_set [] i n e d = absurd (none-some (x, u) e)
    bound_set (p ∷ s) zero n e d =
        let q : p ≡ (x, u) = cc in
        twice (nat_eq n x) (Some t) (Some p.1) (bound s n)
        ∙ (λ j. cond (nat_eq n x) (Some t) (cond (nat_eq n (sym q j).0) (Some p.1) (bound s n)))
    bound_set (p ∷ s) (suc i) n e d =
        ap (λ r. cond (nat_eq n p.0) (Some p.1) r) (bound_set s i n e d.1)
        ∙ swapped (nat_eq n p.0) (nat_eq n x) (Some p.1) (Some t) (bound s n) (another s i p.0 n e d.1 d.0)

    pub image_set : (s : List (ℕ × Tree)) (i : ℕ) → slice_get s i ≡ Some (x, u) → IsDistinct s → image (set s i (x, t)) ≡ image_with x t (image s)
    image_set s i e d = λ j n. (ap (λ o. unwrap_or o (leaf (var n))) (bound_set s i n e d) ∙ imaged (nat_eq n x) t (leaf (var n)) (bound s n)) j

    still_free : (b : Bool) (o : Option Tree) → b ≡ false → o ≡ None → cond b (Some t) o ≡ None
    still_free true o e f = let c : true ≡ false = e in cc
    still_free false o e f = f

    other : (s : List (ℕ × Tree)) (i n : ℕ) → slice_get s i ≡ Some (x, u) → IsDistinct s → bound s n ≡ None → nat_eq n x ≡ false
    other s i n e d free = elim (cases_Bool (nat_eq n x)) [
      | inl b ↦ absurd (another s i n n e d free (eq-eqb n n refl) b)
      | inr b ↦ b
    ]

    pub distinct_set : (s : List (ℕ × Tree)) (i : ℕ) → slice_get s i ≡ Some (x, u) → IsDistinct s → IsDistinct (set s i (x, t))
    distinct_set [] i e d = absurd (none-some (x, u) e)
    distinct_set (p ∷ s) zero e d = let q : p ≡ (x, u) = cc in (ap (bound s) (λ j. (sym q j).0) ∙ d.0, d.1)
    distinct_set (p ∷ s) (suc i) e d = (
      bound_set s i p.0 e d.1 ∙ still_free (nat_eq p.0 x) (bound s p.0) (other s i p.0 e d.1 d.0) d.0,
      distinct_set s i e d.1,
    )

-- a term for a variable that has none, behind the others
bound_push : (s : List (ℕ × Tree)) (x n : ℕ) (t : Tree) → bound s x ≡ None → bound (s ++ (x, t) ∷ []) n ≡ cond (nat_eq n x) (Some t) (bound s n)
bound_push [] x n t e = refl
bound_push (p ∷ s) x n t e =
    ap (λ r. cond (nat_eq n p.0) (Some p.1) r) (bound_push s x n t (rest (nat_eq x p.0) (Some p.1) (bound s x) refl e))
    ∙ swapped (nat_eq n p.0) (nat_eq n x) (Some p.1) (Some t) (bound s n) (λ a b. differ (nat_eq x p.0) refl e (sym (eqb-true n x b) ∙ eqb-true n p.0 a))
  where
    rest : (b : Bool) (o r : Option Tree) → o ≡ Some p.1 → cond b o r ≡ None → r ≡ None
    rest true o r f g = absurd (none_is p.1 (sym g ∙ f))
    rest false o r f g = g

    differ : (b : Bool) → nat_eq x p.0 ≡ b → cond b (Some p.1) (bound s x) ≡ None → x ≡ p.0 → ⊥
    differ true f g h = none_is p.1 (sym g)
    differ false f g h = let c : false ≡ true = sym f ∙ eq-eqb x p.0 h in cc

pub image_push : (s : List (ℕ × Tree)) (x : ℕ) (t : Tree) → bound s x ≡ None → image (s ++ (x, t) ∷ []) ≡ image_with x t (image s)
image_push s x t e = λ j n. (ap (λ o. unwrap_or o (leaf (var n))) (bound_push s x n t e) ∙ imaged (nat_eq n x) t (leaf (var n)) (bound s n)) j
