-- A number that is drawn from a bag, and the place where it stood.
use Rattle.std.proofs.Common.{◌≡◌, ℕ, zero, suc, ◌<◌, ◌≤◌, ◌+◌, List, [], ◌∷◌, ◌++◌, length, get_or, take, drop, refl, sym, ◌∙◌, ap, subst, inl, inr, arith}
use Rattle.std.specs.Prelude.{◌⊎◌}
use Rattle.std.specs.List.Sorted.{IsNonDecreasing}
use Rattle.dps_bags.specs.Bags.{Draws, drawn_here, drawn_there}

-- the bag without the number at the place
abbrev pub without_place : List ℕ → ℕ → List ℕ
without_place ns i = take i ns ++ drop (i + 1) ns

without_next : (n : ℕ) (ns : List ℕ) (i : ℕ) → without_place (n ∷ ns) (suc i) ≡ n ∷ without_place ns i
without_next n ns i = let e : suc i + 1 ≡ suc (i + 1) = omega arith in ap (λ k. take (suc i) (n ∷ ns) ++ drop k (n ∷ ns)) e

pub drawn_at : (ns : List ℕ) (i : ℕ) → i < length ns → Draws (get_or ns i 0) ns (without_place ns i)
drawn_at [] i h = absurd (omega (arith, h))
drawn_at (n ∷ ns) zero h = drawn_here
drawn_at (n ∷ ns) (suc i) h =
    subst (λ (rest : List ℕ). Draws (get_or ns i 0) (n ∷ ns) rest) (sym (without_next n ns i)) (drawn_there (drawn_at ns i (omega (arith, h))))

left_before : (ns : List ℕ) (i k d : ℕ) → k < i → i < length ns → get_or (without_place ns i) k d ≡ get_or ns k d
left_before [] i k d h l = absurd (omega (arith, l))
left_before (n ∷ ns) zero k d h l = absurd (omega (arith, h))
left_before (n ∷ ns) (suc i) zero d h l = ap (λ ms. get_or ms zero d) (without_next n ns i)
left_before (n ∷ ns) (suc i) (suc k) d h l = ap (λ ms. get_or ms (suc k) d) (without_next n ns i) ∙ left_before ns i k d (omega (arith, h)) (omega (arith, l))

left_after : (ns : List ℕ) (i k d : ℕ) → i ≤ k → i < length ns → get_or (without_place ns i) k d ≡ get_or ns (suc k) d
left_after [] i k d h l = absurd (omega (arith, l))
left_after (n ∷ ns) zero k d h l = refl
left_after (n ∷ ns) (suc i) zero d h l = absurd (omega (arith, h))
left_after (n ∷ ns) (suc i) (suc k) d h l = ap (λ ms. get_or ms (suc k) d) (without_next n ns i) ∙ left_after ns i k d (omega (arith, h)) (omega (arith, l))

left_length : (ns : List ℕ) (i : ℕ) → i < length ns → suc (length (without_place ns i)) ≡ length ns
left_length [] i l = absurd (omega (arith, l))
left_length (n ∷ ns) zero l = refl
left_length (n ∷ ns) (suc i) l = ap suc (ap length (without_next n ns i) ∙ left_length ns i (omega (arith, l)))

-- what is left is in ascending order still
pub left_ascending : (ns : List ℕ) (i : ℕ) → i < length ns → IsNonDecreasing ns → IsNonDecreasing (without_place ns i)
left_ascending ns i l a j k d h m = by_places (before j) (before k)
  where
    within : suc k < length ns
    within = let e = left_length ns i l in omega (arith, e, m)

    before : (k : ℕ) → (k < i) ⊎ (i ≤ k)
    before k = grind arith

    by_places : (j < i) ⊎ (i ≤ j) → (k < i) ⊎ (i ≤ k) → get_or (without_place ns i) j d ≤ get_or (without_place ns i) k d
    by_places (inl p) (inl q) = let e = left_before ns i j d p l in let f = left_before ns i k d q l in let g = a j k d h (omega (arith, within)) in omega (arith, e, f, g)
    by_places (inl p) (inr q) = let e = left_before ns i j d p l in let f = left_after ns i k d q l in let g = a j (suc k) d (omega (arith, h)) within in omega (arith, e, f, g)
    by_places (inr p) (inl q) = absurd (omega (arith, h, p, q))
    by_places (inr p) (inr q) = let e = left_after ns i j d p l in let f = left_after ns i k d q l in let g = a (suc j) (suc k) d (omega (arith, h)) within in omega (arith, e, f, g)
