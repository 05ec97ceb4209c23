-- Lists of numbers in another order, and what they stand for.
use Rattle.std.proofs.Common.{◌≡◌, ℕ, suc, ◌+◌, ◌≤◌, List, [], ◌∷◌, refl, sym, ◌∙◌, ap, subst, arith, true, false, Bool}
use Rattle.std.specs.Prelude.{◌==◌, if◌then◌else◌, Contains}
use Rattle.std.specs.List.{sum_by}
use Rattle.std.specs.List.Sorted.{IsPermutation, IsNonDecreasing}
use Rattle.dps_bags.specs.Bags.{Draws, drawn_here, drawn_there}
use Rattle.std.proofs.lemmas.List.Sums.{sum_by-cons}
use Rattle.std.proofs.lemmas.List.Sorted.{sum_by-IsPermutation}
use Rattle.dps_bags.proofs.Holding.{contains_first, contains_later}

-- the same numbers in any order
pub data IsShuffled : List ℕ → List ℕ → Type 0 where
  no_numbers : IsShuffled [] []
  a_number : {x : ℕ} {xs ys rest : List ℕ} → Draws x ys rest → IsShuffled xs rest → IsShuffled (x ∷ xs) ys

abbrev is_one : ℕ → ℕ → ℕ
is_one x y = if y == x then 1 else 0

pub drawn_sum : (f : ℕ → ℕ) {x : ℕ} {xs rest : List ℕ} → Draws x xs rest → sum_by f xs ≡ f x + sum_by f rest
drawn_sum f (drawn_here {ns = xs}) = sum_by-cons f _ xs
drawn_sum f {x} (drawn_there {m = y} {ns = xs} {rest} d) = let h = drawn_sum f d in omega (arith, h, sum_by-cons f y xs, sum_by-cons f y rest)

abbrev Drawn : ℕ → List ℕ → Type 0
Drawn x ys = (rest : List ℕ) × Draws x ys rest

one_itself : (x : ℕ) → is_one x x ≡ 1
one_itself x = grind arith

draw_first : (x y : ℕ) (ys : List ℕ) (b : Bool) → (y == x) ≡ b → 1 ≤ sum_by (is_one x) (y ∷ ys) → (1 ≤ sum_by (is_one x) ys → Drawn x ys) → Drawn x (y ∷ ys)
draw_first x y ys true e h k = let s : y ≡ x = grind (arith, e) in subst (λ (z : ℕ). Drawn x (z ∷ ys)) (sym s) (ys, drawn_here)
draw_first x y ys false e h k =
    let none : is_one x y ≡ 0 = ap (λ b. if b then 1 else 0) e in
    let rest = k (omega (arith, h, none, sum_by-cons (is_one x) y ys)) in (y ∷ rest.0, drawn_there rest.1)

drawn : (x : ℕ) (ys : List ℕ) → 1 ≤ sum_by (is_one x) ys → Drawn x ys
drawn x [] h = absurd (omega (arith, h))
drawn x (y ∷ ys) h = draw_first x y ys (y == x) refl h (drawn x ys)

shuffled_by_sums : (xs ys : List ℕ) → ((f : ℕ → ℕ) → sum_by f ys ≡ sum_by f xs) → IsShuffled xs ys
shuffled_by_sums [] [] h = no_numbers
shuffled_by_sums [] (y ∷ ys) h = absurd (let e = h (λ _. 1) in omega (arith, e, sum_by-cons (λ _. 1) y ys))
shuffled_by_sums (x ∷ xs) ys h =
    let d = drawn x ys (let e = h (is_one x) in omega (arith, e, one_itself x, sum_by-cons (is_one x) x xs)) in
    a_number d.1 (shuffled_by_sums xs d.0 (λ f. (let e = h f in omega (arith, e, drawn_sum f d.1, sum_by-cons f x xs))))

pub shuffled : (xs ys : List ℕ) → IsPermutation xs ys → IsShuffled xs ys
shuffled xs ys h = shuffled_by_sums xs ys (λ f. sum_by-IsPermutation f xs ys h)

drawn_held : {x : ℕ} {xs rest : List ℕ} → Draws x xs rest → Contains xs x
drawn_held {x} (drawn_here {ns = xs}) = contains_first x xs
drawn_held {x} (drawn_there {m = y} {ns = xs} d) = contains_later y xs x (drawn_held d)

first_least : (x y : ℕ) (xs : List ℕ) → IsNonDecreasing (x ∷ xs) → Contains (x ∷ xs) y → x ≤ y
first_least x y xs a c = let h = a 0 c.0 y (omega arith) c.1 in omega (arith, h, c.2)

others_ascend : (x : ℕ) (xs : List ℕ) → IsNonDecreasing (x ∷ xs) → IsNonDecreasing xs
others_ascend x xs a i j d h l = a (suc i) (suc j) d (omega (arith, h)) (omega (arith, l))

abbrev HaveSameSums : List ℕ → List ℕ → Type 0
HaveSameSums xs ys = (f : ℕ → ℕ) → sum_by f ys ≡ sum_by f xs

held_by_sums : (x : ℕ) (xs ys : List ℕ) → HaveSameSums (x ∷ xs) ys → Contains ys x
held_by_sums x xs ys h =
    drawn_held (drawn x ys (let e = h (is_one x) in omega (arith, e, one_itself x, sum_by-cons (is_one x) x xs))).1

-- lists in ascending order with the same numbers are one list
pub ascending_same : (xs ys : List ℕ) → IsNonDecreasing xs → IsNonDecreasing ys → HaveSameSums xs ys → xs ≡ ys
ascending_same [] [] a b h = refl
ascending_same [] (y ∷ ys) a b h = absurd (let e = h (λ _. 1) in omega (arith, e, sum_by-cons (λ _. 1) y ys))
ascending_same (x ∷ xs) [] a b h = absurd (let e = h (λ _. 1) in omega (arith, e, sum_by-cons (λ _. 1) x xs))
ascending_same (x ∷ xs) (y ∷ ys) a b h =
    let up = first_least y x ys b (held_by_sums x xs (y ∷ ys) h) in
    let down = first_least x y xs a (held_by_sums y ys (x ∷ xs) (λ f. sym (h f))) in
    let e : x ≡ y = omega (arith, up, down) in
    let rest = ascending_same xs ys (others_ascend x xs a) (others_ascend y ys b) (λ f. (let k = ap f e in let l = h f in omega (arith, l, k, sum_by-cons f x xs, sum_by-cons f y ys))) in
    ap (λ z. z ∷ xs) e ∙ ap (λ zs. y ∷ zs) rest
