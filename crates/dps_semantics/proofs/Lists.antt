-- Lists of which the first so many items were read.
use Rattle.std.proofs.Common.{◌≡◌, ℕ, ◌<◌, ◌≤◌, ◌+◌, List, [], ◌∷◌, ◌++◌, length, get_or, take, map, refl, sym, ◌∙◌, ap, subst, arith, zero, suc, true, false, true≢false}
use Rattle.std.specs.Prelude.{◌==◌, Option, Some, None, MatchOption}
use Rattle.std.proofs.lemmas.List.{take_more, take_all, get_or_default, take-map, map-append}

-- the list with one more item
pub taken_more : {A : Type 0} (P : List A → Type 0) (xs : List A) (i : ℕ) (x : A) → x ≡ get_or xs i x → i < length xs → P (take i xs ++ x ∷ []) → P (take (i + 1) xs)
taken_more P xs i x e h p = subst P (sym (take_more xs i x h ∙ ap (λ y. take i xs ++ y ∷ []) (sym e))) p

pub taken_all : {A : Type 0} (P : List A → Type 0) (xs : List A) (i : ℕ) → length xs ≤ i → P (take i xs) → P xs
taken_all P xs i h p = subst P (take_all i xs h) p

-- what is said of a value that is there
pub of_some : {A : Type 0} (N : Type 0) (P : A → Type 0) (o : Option A) (v : A) → MatchOption o N P → o ≡ Some v → P v
of_some {A} N P o v m e = subst (λ (x : Option A). MatchOption x N P) e m

-- and of one that is not
pub of_none : {A : Type 0} (N : Type 0) (P : A → Type 0) (o : Option A) → MatchOption o N P → o ≡ None → N
of_none {A} N P o m e = subst (λ (x : Option A). MatchOption x N P) e m

-- an item that was read, whatever stands for one past the end
pub item_is : {A : Type 0} (xs : List A) (i : ℕ) (x d : A) → x ≡ get_or xs i x → i < length xs → x ≡ get_or xs i d
item_is xs i x d e h = e ∙ get_or_default xs i x d h

-- what is read of a list that was mapped
pub mapped_more : {A B : Type 0} (f : A → B) (xs : List A) (i : ℕ) (x : A) → x ≡ get_or xs i x → i < length xs → take (i + 1) (map f xs) ≡ take i (map f xs) ++ f x ∷ []
mapped_more f xs i x e h =
    take-map f (i + 1) xs
    ∙ (ap (map f) (take_more xs i x h ∙ ap (λ y. take i xs ++ y ∷ []) (sym e))
    ∙ (map-append f (take i xs) (x ∷ []) ∙ ap (λ ys. ys ++ f x ∷ []) (sym (take-map f i xs))))

pub no_items_left : {A : Type 0} (xs : List A) → (¬ (0 < length xs)) → xs ≡ []
no_items_left [] h = refl
no_items_left (x ∷ xs) h = absurd (h (omega arith))

pub not_none : (n : ℕ) → (n == 0) ≡ false → 0 < n
not_none zero e = absurd (true≢false e)
not_none (suc n) e = omega arith

pub none_there : (n : ℕ) → (n == 0) ≡ true → n ≡ 0
none_there n e = grind (arith, e)
