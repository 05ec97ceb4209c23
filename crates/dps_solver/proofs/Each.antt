-- Facts of the elements of a list, one after the other.
use Rattle.std.proofs.Common.{◌≡◌, ℕ, zero, suc, ◌+◌, ◌<◌, ◌≤◌, List, [], ◌∷◌, length, slice_get, map, Some, Contains, sym, ap, ◌∙◌, subst, inl, inr, arith}
use Rattle.std.specs.Prelude.{All, Any}
use Rattle.std.proofs.lemmas.Bool.{cases_lt}
use Rattle.std.proofs.lemmas.Option.{none-some, slice_get_within}
use Rattle.dps_know.proofs.Listing.{in_cons, in_head, in_tail, in_none, mapped_contains}

pub all_in : {X : Type 0} (P : X → Type 0) (xs : List X) (x : X) → All P xs → Contains xs x → P x
all_in P xs x h c = subst P c.2 (h c.0 x c.1)

pub unmapped : {X Y : Type 0} (f : X → Y) (xs : List X) (y : Y) → Contains (map f xs) y → (x : X) × Contains xs x × (y ≡ f x)
unmapped f [] y c = absurd (in_none y c)
unmapped f (x ∷ xs) y c = elim (in_cons y (f x) (map f xs) c) [
  | inl e ↦ (x, in_head x xs, e)
  | inr k ↦ let h = unmapped f xs y k in (h.0, in_tail h.0 x xs h.1, h.2)
]

pub contains_at : {X : Type 0} (xs : List X) (j : ℕ) (x : X) → slice_get xs j ≡ Some x → Contains xs x
contains_at [] j x e = absurd (none-some x e)
contains_at (y ∷ xs) zero x e = let d : y ≡ x = cc in subst (λ z. Contains (y ∷ xs) z) d (in_head y xs)
contains_at (y ∷ xs) (suc j) x e = in_tail x y xs (contains_at xs j x e)

pub place_in : {X : Type 0} (xs : List X) (x : X) → Contains xs x → (i : ℕ) × (slice_get xs i ≡ Some x)
place_in [] x h = absurd (in_none x h)
place_in (y ∷ xs) x h = elim (in_cons x y xs h) [
  | inl e ↦ (0, ap Some (sym e))
  | inr k ↦ let r = place_in xs x k in (suc r.0, r.1)
]

-- P holds of the first i elements
abbrev pub HoldsOfFirst : {X : Type 0} → (X → Type 0) → List X → ℕ → Type 0
HoldsOfFirst {X} P xs i = (j : ℕ) (x : X) → j < i → slice_get xs j ≡ Some x → P x

below_none : (j : ℕ) → j < 0 → ⊥
below_none j l = omega (arith, l)

pub first_none : {X : Type 0} (P : X → Type 0) (xs : List X) → HoldsOfFirst P xs 0
first_none P xs j x l at = absurd (below_none j l)

pub first_more : {X : Type 0} (P : X → Type 0) (xs : List X) (i : ℕ) (x : X) → HoldsOfFirst P xs i → slice_get xs i ≡ Some x → P x → HoldsOfFirst P xs (i + 1)
first_more P xs i x h there p j y l at = elim (cases_lt j i) [
  | inl below ↦ h j y below at
  | inr above ↦
      let here : j ≡ i = omega (arith, l, above) in
      let same : Some x ≡ Some y = sym there ∙ ap (slice_get xs) (sym here) ∙ at in
      let is : x ≡ y = cc in subst P is p
]

-- the same of what a function makes of the elements
pub some_any_of : {X Y : Type 0} (f : X → Y) (P : Y → Type 0) (xs : List X) (i : ℕ) (x : X) → slice_get xs i ≡ Some x → P (f x) → Any P (map f xs)
some_any_of f P xs i x at p = let c = mapped_contains f xs x (contains_at xs i x at) in (c.0, f x, c.1, c.2, p)

pub none_any_of : {X Y : Type 0} (f : X → Y) (P : Y → Type 0) (xs : List X) (i : ℕ) → HoldsOfFirst (λ x. ¬ P (f x)) xs i → length xs ≤ i → ¬ Any P (map f xs)
none_any_of f P xs i h l a =
    let o = unmapped f xs a.1 (a.0, a.2, a.3) in
    let at = place_in xs o.0 o.1 in
    h at.0 o.0 (omega (arith, l, slice_get_within xs at.0 o.0 at.1)) at.1 (subst P o.2 a.4)
