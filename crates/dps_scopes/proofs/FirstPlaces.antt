-- The first place where a test passes, in a list and behind it.
use Rattle.std.proofs.Common.{◌≡◌, ◌<◌, ◌≤◌, ℕ, zero, suc, ◌+◌, Bool, true, false, cond, not, nat_lt, List, [], ◌∷◌, ◌++◌, Option, Some, None, refl, sym, ap, ◌∙◌, inl}
use Rattle.std.proofs.Common.{inr, length, arith, option_map, position}
use Rattle.std.specs.List.{position_or_len}
use Rattle.std.proofs.lemmas.Bool.{cases_lt, lt-ltb, le-ltb}

pub position-cons : {X : Type 0} (p : X → Bool) (x : X) (xs : List X) → position p (x ∷ xs) ≡ cond (p x) (Some 0) (option_map suc (position p xs))
position-cons p x xs = go (p x) (position_or_len p xs) (length xs)
  where
    go : (b : Bool) (n m : ℕ) → cond (nat_lt (cond (not b) (1 + n) 0) (suc m)) (Some (cond (not b) (1 + n) 0)) None ≡ cond b (Some 0) (option_map suc (cond (nat_lt n m) (Some n) None))
    go true n m = rw (lt-ltb 0 (suc m) (omega arith)) refl
    go false n m =
        let next : 1 + n ≡ suc n = omega arith in
        elim (cases_lt n m) [
          | inl h ↦ rw (lt-ltb n m h, lt-ltb (1 + n) (suc m) (omega arith)) (ap (λ k. Some k) next)
          | inr h ↦ rw (le-ltb n m h, le-ltb (1 + n) (suc m) (omega arith)) refl
        ]

-- the place in a list, or behind it in another
abbrev pub or_behind : Option ℕ → ℕ → Option ℕ → Option ℕ
or_behind (Some i) n other = Some i
or_behind None n other = option_map (λ k. n + k) other

behind_one : (b : Bool) (o : Option ℕ) (n : ℕ) (other : Option ℕ) → cond b (Some 0) (option_map suc (or_behind o n other)) ≡ or_behind (cond b (Some 0) (option_map suc o)) (suc n) other
behind_one true o n other = refl
behind_one false (Some i) n other = refl
behind_one false None n None = refl
behind_one false None n (Some k) = let e : suc (n + k) ≡ suc n + k = omega arith in ap (λ j. Some j) e

pub position-append : {X : Type 0} (p : X → Bool) (xs ys : List X) → position p (xs ++ ys) ≡ or_behind (position p xs) (length xs) (position p ys)
position-append p [] ys = go (position p ys)
  where
    go : (o : Option ℕ) → o ≡ option_map (λ k. 0 + k) o
    go None = refl
    go (Some k) = let e : k ≡ 0 + k = omega arith in ap (λ j. Some j) e
position-append p (x ∷ xs) ys =
    position-cons p x (xs ++ ys)
    ∙ (ap (λ o. cond (p x) (Some 0) (option_map suc o)) (position-append p xs ys)
    ∙ (behind_one (p x) (position p xs) (length xs) (position p ys)
    ∙ ap (λ o. or_behind o (suc (length xs)) (position p ys)) (sym (position-cons p x xs))))

-- what is found in a front is found there
pub position_kept : {X : Type 0} (p : X → Bool) (xs ys : List X) (i : ℕ) → position p xs ≡ Some i → position p (xs ++ ys) ≡ Some i
position_kept p xs ys i e = position-append p xs ys ∙ ap (λ o. or_behind o (length xs) (position p ys)) e

-- what is in neither part is not found
pub position_nowhere : {X : Type 0} (p : X → Bool) (xs ys : List X) → position p xs ≡ None → position p ys ≡ None → position p (xs ++ ys) ≡ None
position_nowhere p xs ys e f = position-append p xs ys ∙ (λ i. or_behind (e i) (length xs) (f i))

pub position_behind : {X : Type 0} (p : X → Bool) (xs ys : List X) (i : ℕ) → position p xs ≡ None → position p ys ≡ Some i → position p (xs ++ ys) ≡ Some (length xs + i)
position_behind p xs ys i e f = position-append p xs ys ∙ (λ j. or_behind (e j) (length xs) (f j))

pub position_one : {X : Type 0} (p : X → Bool) (x : X) → p x ≡ false → position p (x ∷ []) ≡ None
position_one p x e = position-cons p x [] ∙ ap (λ b. cond b (Some 0) None) e
