-- Elements of lists and their places.
use Rattle.std.proofs.Common.{◌≡◌, ℕ, zero, suc, ◌<◌, List, [], ◌∷◌, refl, sym, ap, subst, true, ◌++◌, ◌+◌, length, inl, inr, arith, Some}
use Rattle.std.specs.Prelude.{Contains, slice_get}
use Rattle.std.proofs.lemmas.Cmp.{nat_eq_equiv}
use Rattle.std.proofs.lemmas.Map.Views.{list_any-from_Contains}
use Rattle.dps_renewal.specs.Numbering.{is_among}
use Rattle.dps_symeval.proofs.Listed.{contains_none, contains_first, contains_later, contains_cases}
use Rattle.std.specs.List.{range_with_len}

-- an element has a place
pub placed : {X : Type 0} (xs : List X) (x : X) → Contains xs x → (j : ℕ) × (slice_get xs j ≡ Some x)
placed [] x h = absurd (contains_none x h)
placed (y ∷ ys) x h = elim (contains_cases y ys x h) [
  | inl e ↦ (0, ap Some (sym e))
  | inr k ↦ let d = placed ys x k in (suc d.0, d.1)
]

-- a number of the list is found there
pub among_true : (ns : List ℕ) (n : ℕ) → Contains ns n → is_among n ns ≡ true
among_true ns n h = list_any-from_Contains nat_eq_equiv n ns h

-- places in a longer list
pub in_front : {X : Type 0} (xs ys : List X) (j : ℕ) (x : X) → slice_get xs j ≡ Some x → slice_get (xs ++ ys) j ≡ Some x
in_front [] ys j x e = cc
in_front (y ∷ xs) ys zero x e = e
in_front (y ∷ xs) ys (suc j) x e = in_front xs ys j x e

pub from_front : {X : Type 0} (xs ys : List X) (j : ℕ) → j < length xs → slice_get (xs ++ ys) j ≡ slice_get xs j
from_front [] ys j h = absurd (omega (arith, h))
from_front (y ∷ xs) ys zero h = refl
from_front (y ∷ xs) ys (suc j) h = from_front xs ys j (omega (arith, h))

pub behind : {X : Type 0} (xs ys : List X) (j k : ℕ) → k ≡ length xs + j → slice_get (xs ++ ys) k ≡ slice_get ys j
behind [] ys j k e = ap (slice_get ys) (omega (arith, e))
behind (x ∷ xs) ys j zero e = absurd (omega (arith, e))
behind (x ∷ xs) ys j (suc k) e = behind xs ys j k (omega (arith, e))

-- the numbers of a range
pub in_range : (a n i x : ℕ) → i < n → x ≡ a + i → Contains (range_with_len a n) x
in_range a zero i x h e = absurd (omega (arith, h))
in_range a (suc n) zero x h e = let same : a ≡ x = omega (arith, e) in subst (λ y. Contains (a ∷ range_with_len (a + 1) n) y) same (contains_first a (range_with_len (a + 1) n))
in_range a (suc n) (suc i) x h e = contains_later a (range_with_len (a + 1) n) x (in_range (a + 1) n i x (omega (arith, h)) (omega (arith, e)))

-- what stands at a place
pub at_place : {X : Type 0} (xs : List X) (j : ℕ) → j < length xs → (x : X) × (slice_get xs j ≡ Some x)
at_place [] j h = absurd (omega (arith, h))
at_place (x ∷ xs) zero h = (x, refl)
at_place (x ∷ xs) (suc j) h = at_place xs j (omega (arith, h))

-- nothing is added
pub nothing_more : {X : Type 0} (xs ys : List X) → ys ≡ [] → xs ++ ys ≡ xs
nothing_more [] ys e = e
nothing_more {X} (x ∷ xs) ys e = ap (λ (zs : List X). x ∷ zs) (nothing_more xs ys e)

pub from_range : (a n x : ℕ) → Contains (range_with_len a n) x → (i : ℕ) × (i < n) × (x ≡ a + i)
from_range a zero x h = absurd (contains_none x h)
from_range a (suc n) x h = elim (contains_cases a (range_with_len (a + 1) n) x h) [
  | inl e ↦ (0, omega arith, omega (arith, e))
  | inr k ↦ let d = from_range (a + 1) n x k in (suc d.0, omega (arith, d.1), omega (arith, d.2))
]
