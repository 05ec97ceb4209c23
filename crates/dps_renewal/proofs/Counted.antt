-- Variables that are counted anew, by their places.
use Rattle.std.proofs.Common.{◌≡◌, ℕ, ◌+◌, List, [], ◌∷◌, Bool, true, false, cond, Some, None, nat_eq, refl, ap, sym, ◌∙◌, arith}
use Rattle.std.specs.List.{position, position_from}
use Rattle.std.proofs.lemmas.Iterator.Adapters.{position_from-zero}
use Rattle.dps_terms.specs.Tree.{var, Tree, leaf}
use Rattle.dps_renewal.specs.Numbering.{counted_as, as_variable}

-- a variable at a place of the list gets the number of the place
pub at_place : (s : ℕ → Tree) (n k : ℕ) (xs : List ℕ) (y i : ℕ) → position_from (nat_eq y) k xs ≡ Some i → counted_as s (n + k) xs y ≡ s (n + i)
at_place s n k [] y i e = cc
at_place s n k (x ∷ xs) y i e = by (nat_eq y x) e (at_place s n (k + 1) xs y i)
  where
    by : (b : Bool) → cond b (Some k) (position_from (nat_eq y) (k + 1) xs) ≡ Some i
        → (position_from (nat_eq y) (k + 1) xs ≡ Some i → counted_as s (n + (k + 1)) xs y ≡ s (n + i))
        → cond b (s (n + k)) (counted_as s ((n + k) + 1) xs y) ≡ s (n + i)
    by true f h = let d : k ≡ i = cc in ap (λ j. s (n + j)) d
    by false f h = let d : (n + k) + 1 ≡ n + (k + 1) = omega arith in ap (λ j. counted_as s j xs y) d ∙ h f

-- and one that stands nowhere stays
pub at_none : (s : ℕ → Tree) (n k : ℕ) (xs : List ℕ) (y : ℕ) → position_from (nat_eq y) k xs ≡ None → counted_as s n xs y ≡ leaf (var y)
at_none s n k [] y e = refl
at_none s n k (x ∷ xs) y e = by (nat_eq y x) e (at_none s (n + 1) (k + 1) xs y)
  where
    by : (b : Bool) → cond b (Some k) (position_from (nat_eq y) (k + 1) xs) ≡ None
        → (position_from (nat_eq y) (k + 1) xs ≡ None → counted_as s (n + 1) xs y ≡ leaf (var y))
        → cond b (s n) (counted_as s (n + 1) xs y) ≡ leaf (var y)
    by true f h = cc
    by false f h = h f

-- and so for new numbers
pub numbered_at : (n : ℕ) (xs : List ℕ) (y i : ℕ) → position (nat_eq y) xs ≡ Some i → counted_as as_variable n xs y ≡ as_variable (n + i)
numbered_at n xs y i e =
    let k : n ≡ n + 0 = omega arith in
    ap (λ m. counted_as as_variable m xs y) k ∙ at_place as_variable n 0 xs y i (sym (position_from-zero (nat_eq y) xs) ∙ e)

pub numbered_at_none : (n : ℕ) (xs : List ℕ) (y : ℕ) → position (nat_eq y) xs ≡ None → counted_as as_variable n xs y ≡ leaf (var y)
numbered_at_none n xs y e = at_none as_variable n 0 xs y (sym (position_from-zero (nat_eq y) xs) ∙ e)
