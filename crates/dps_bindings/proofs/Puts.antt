-- Substitutions put one after the other.
use Rattle.std.proofs.Common.{◌≡◌, ℕ, ◌+◌, ◌<◌, ◌≤◌, List, [], ◌∷◌, ◌++◌, length, map, slice_get, Option, Some, None, Contains, Bor, true, false, ◌⊎◌, inl, inr, sym, ◌∙◌, ap, arith}
use Rattle.std.specs.Option.{option_map, option_copied, is_some}
use Rattle.std.proofs.lemmas.Bool.{cases_lt}
use Rattle.std.proofs.lemmas.Option.{slice_get_within}
use Rattle.dps_terms.specs.Tree.{Tree}
use Rattle.dps_terms.specs.Replace.{substitute}
use Rattle.dps_terms.specs.Bindings.{bound, image}
use Rattle.dps_unify.proofs.Bound.{cases_option, bound-map, image_none, image_some, single, single_here, single_cases, bound-push_some, bound-push_none}
use Rattle.dps_solver.proofs.Each.{place_in}
use Rattle.dps_bindings.specs.Putting.{under, IsOnceBound}

-- What is bound stays. Besides, variables alone are bound that were not and that u binds, the first i of xs among them.
pub record ArePut (u old : List (ℕ × Tree)) (xs : List ℕ) (i : ℕ) (new : List (ℕ × Tree)) : Type 0 where
  pub keeps : (n : ℕ) (t : Tree) → bound old n ≡ Some t → bound new n ≡ Some t
  pub adds : (n : ℕ) (t : Tree) → bound new n ≡ Some t → (bound old n ≡ Some t) ⊎ ((bound old n ≡ None) × (bound u n ≡ Some t))
  pub binds : (j x : ℕ) → j < i → slice_get xs j ≡ Some x → (t : Tree) → bound u x ≡ Some t → (v : Tree) × (bound new x ≡ Some v)

below_none : (j : ℕ) → j < 0 → ⊥
below_none j l = omega (arith, l)

pub put_none : (u old : List (ℕ × Tree)) (xs : List ℕ) → ArePut u old xs 0 old
put_none u old xs = record {
  keeps = λ n t e. e;
  adds = λ n t e. inl e;
  binds = λ j x l. absurd (below_none j l);
}

no_some : {X : Type 0} {o : Option X} {x : X} → o ≡ None → o ≡ Some x → ⊥
no_some {X} {o} {x} e f = let d : None ≡ Some x = sym e ∙ f in cc

pub put_more :
    (u old mid new : List (ℕ × Tree)) (xs : List ℕ) (i x : ℕ) → ArePut u old xs i mid → slice_get xs i ≡ Some x → IsOnceBound u x mid new
    → ArePut u old xs (i + 1) new
put_more u old mid new xs i x h there k = record {
  keeps = λ n t e. k.keeps n t (h.keeps n t e);
  adds = λ n t e. elim (k.adds n t e) [
    | inl f ↦ h.adds n t f
    | inr f ↦ elim (cases_option (bound old n)) [
      | inl g ↦ inr (g, f.1)
      | inr g ↦ absurd (no_some f.0 (h.keeps n g.0 g.1))
    ]
  ];
  binds = λ j y l at t e. elim (cases_lt j i) [
    | inl below ↦ let v = h.binds j y below at t e in (v.0, k.keeps y v.0 v.1)
    | inr above ↦
        let here : j ≡ i = omega (arith, l, above) in
        let same : Some x ≡ Some y = sym there ∙ ap (slice_get xs) (sym here) ∙ at in
        let is : y ≡ x = cc in
        let v = k.binds t (ap (bound u) (sym is) ∙ e) in
        (v.0, ap (bound new) is ∙ v.1)
  ];
}

-- what is bound in the end
module _ (u before new : List (ℕ × Tree)) (xs : List ℕ) (i : ℕ) (h : ArePut u (map (under (image u)) before) xs i new) (l : length xs ≤ i)
    (covers : (n : ℕ) (t : Tree) → bound u n ≡ Some t → Contains xs n) where
  old_none : (n : ℕ) → bound before n ≡ None → bound (map (under (image u)) before) n ≡ None
  old_none n e = bound-map (substitute (image u)) before n ∙ ap (option_map (substitute (image u))) e

  old_some : (n : ℕ) (t : Tree) → bound before n ≡ Some t → bound (map (under (image u)) before) n ≡ Some (substitute (image u) t)
  old_some n t e = bound-map (substitute (image u)) before n ∙ ap (option_map (substitute (image u))) e

  free : (n : ℕ) → bound before n ≡ None → image new n ≡ image u n
  free n e = elim (cases_option (bound u n)) [
    | inl none ↦ elim (cases_option (bound new n)) [
      | inl f ↦ image_none new n f ∙ sym (image_none u n none)
      | inr f ↦ elim (h.adds n f.0 f.1) [
        | inl g ↦ absurd (no_some (old_none n e) g)
        | inr g ↦ absurd (no_some none g.1)
      ]
    ]
    | inr some ↦
        let at = place_in xs n (covers n some.0 some.1) in
        let v = h.binds at.0 n (omega (arith, l, slice_get_within xs at.0 n at.1)) at.1 some.0 some.1 in
        elim (h.adds n v.0 v.1) [
          | inl g ↦ absurd (no_some (old_none n e) g)
          | inr g ↦ image_some new n v.0 v.1 ∙ sym (image_some u n v.0 g.1)
        ]
  ]

  put_at : (n : ℕ) → image new n ≡ substitute (image u) (image before n)
  put_at n = elim (cases_option (bound before n)) [
    | inl e ↦ free n e ∙ ap (substitute (image u)) (sym (image_none before n e))
    | inr e ↦ image_some new n (substitute (image u) e.0) (h.keeps n (substitute (image u) e.0) (old_some n e.0 e.1)) ∙ ap (substitute (image u)) (sym (image_some before n e.0 e.1))
  ]

  pub put_all : image new ≡ (λ x. substitute (image u) (image before x))
  put_all = λ j x. put_at x j

-- one variable that was not bound
module _ (u old new : List (ℕ × Tree)) (x : ℕ) (t : Tree) (free : bound old x ≡ None) (there : bound u x ≡ Some t) (is : new ≡ old ++ (x, t) ∷ []) where
  still : (n : ℕ) (v : Tree) → bound old n ≡ Some v → bound new n ≡ Some v
  still n v e = ap (λ s. bound s n) is ∙ bound-push_some old (x, t) n v e

  fresh : (n : ℕ) → bound old n ≡ None → bound new n ≡ bound (single x t) n
  fresh n e = ap (λ s. bound s n) is ∙ bound-push_none old (x, t) n e

  same_tree : {o : Option Tree} {v w : Tree} → o ≡ Some v → o ≡ Some w → v ≡ w
  same_tree {o} {v} {w} e f = let d : Some v ≡ Some w = sym e ∙ f in cc

  added : (n : ℕ) (v : Tree) → bound old n ≡ None → bound new n ≡ Some v → bound u n ≡ Some v
  added n v none e = elim (single_cases x t n) [
    | inl h ↦ ap (bound u) h.0 ∙ there ∙ ap Some (same_tree h.1 (sym (fresh n none) ∙ e))
    | inr h ↦ absurd (no_some h.1 (sym (fresh n none) ∙ e))
  ]

  pub bound_now : IsOnceBound u x old new
  bound_now = record {
    keeps = still;
    adds = λ n v e. elim (cases_option (bound old n)) [
      | inl none ↦ inr (none, added n v none e)
      | inr some ↦ inl (some.1 ∙ ap Some (same_tree (still n some.0 some.1) e))
    ];
    binds = λ v e. (t, fresh x free ∙ single_here x t);
  }

-- what a look-up that found nothing says
pub none_seen : (o : Option (Bor Tree)) (b : Option Tree) → is_some o ≡ false → option_copied o ≡ b → b ≡ None
none_seen None b s e = sym e
none_seen (Some r) b s e = let d : true ≡ false = s in cc
