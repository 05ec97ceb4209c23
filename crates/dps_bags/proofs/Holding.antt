-- What lists hold.
use Rattle.std.proofs.Common.{◌≡◌, ℕ, zero, suc, ◌<◌, List, [], ◌∷◌, ◌++◌, length, refl, sym, ◌∙◌, ap, subst, inl, inr, arith, get_or, map, Bool, true}
use Rattle.std.specs.Prelude.{◌⊎◌, ◌↔◌, Contains, Result, Ok, Err, OnErr}
use Rattle.std.specs.Cmp.Lexicographic.{pointwise}
use Rattle.std.proofs.Math.Dec.{eqb}
use Rattle.std.proofs.lemmas.Bool.Decides.{Decides-eqb}
use Rattle.std.proofs.lemmas.Slice.Eq.{slice_eq-Decides}
use Rattle.std.proofs.lemmas.List.{get_or_default}
use Rattle.std.proofs.lemmas.List.Elements.{Contains-append_left, Contains-append_right, Contains-push, Contains-push_cases, Contains-append_cases}

pub contains_none : {A : Type 0} (x : A) → Contains [] x → ⊥
contains_none x h = absurd (omega (arith, h.1))

pub contains_one : {A : Type 0} (x y : A) → Contains (x ∷ []) y → y ≡ x
contains_one x y h = elim (Contains-push_cases [] x y h) [ inl k ↦ absurd (contains_none y k) | inr e ↦ sym e ]

pub contains_pushed : {A : Type 0} (xs : List A) (x y : A) → Contains (xs ++ x ∷ []) y ↔ (Contains xs y ⊎ (y ≡ x))
contains_pushed {A} xs x y = (
  λ h. elim (Contains-push_cases xs x y h) [ inl k ↦ inl k | inr e ↦ inr (sym e) ],
  elim [ inl k ↦ Contains-append_left xs (x ∷ []) y k | inr e ↦ subst (λ (z : A). Contains (xs ++ x ∷ []) z) (sym e) (Contains-push xs x) ],
)

pub contains_first : {A : Type 0} (x : A) (xs : List A) → Contains (x ∷ xs) x
contains_first x xs = Contains-append_left (x ∷ []) xs x (Contains-push [] x)

pub contains_later : {A : Type 0} (x : A) (xs : List A) (y : A) → Contains xs y → Contains (x ∷ xs) y
contains_later x xs y h = Contains-append_right (x ∷ []) xs y h

pub contains_cases : {A : Type 0} (x : A) (xs : List A) (y : A) → Contains (x ∷ xs) y → (y ≡ x) ⊎ Contains xs y
contains_cases x xs y h = elim (Contains-append_cases (x ∷ []) xs y h) [ inl k ↦ inl (contains_one x y k) | inr k ↦ inr k ]

-- an item stands at some place
abbrev pub HasPlace : {A : Type 0} → List A → A → A → Type 0
HasPlace xs d x = (i : ℕ) × (i < length xs) × (get_or xs i d ≡ x)

pub has_place : {A : Type 0} (xs : List A) (d x : A) → Contains xs x → HasPlace xs d x
has_place xs d x h = (h.0, h.1, get_or_default xs h.0 d x h.1 ∙ h.2)

pub contains_item : {A : Type 0} (xs : List A) (i : ℕ) (x : A) → x ≡ get_or xs i x → i < length xs → Contains xs x
contains_item xs i x e h = (i, h, sym e)

pub contains_mapped : {A B : Type 0} (f : A → B) (xs : List A) (x : A) → Contains xs x → Contains (map f xs) (f x)
contains_mapped f [] x h = absurd (contains_none x h)
contains_mapped {A} f (y ∷ xs) x h =
    elim (contains_cases y xs x h) [
      | inl e ↦ subst (λ (z : A). Contains (f y ∷ map f xs) (f z)) (sym e) (contains_first (f y) (map f xs))
      | inr k ↦ contains_later (f y) (map f xs) (f x) (contains_mapped f xs x k)
    ]

pub mapped_pushed : {A B : Type 0} (f : A → B) (xs : List A) (x : A) → map f (xs ++ x ∷ []) ≡ map f xs ++ f x ∷ []
mapped_pushed f [] x = refl
mapped_pushed f (y ∷ xs) x = ap (λ ys. f y ∷ ys) (mapped_pushed f xs x)

pub mapped_length : {A B : Type 0} (f : A → B) (xs : List A) → length (map f xs) ≡ length xs
mapped_length f [] = refl
mapped_length f (x ∷ xs) = ap suc (mapped_length f xs)

pub mapped_item : {A B : Type 0} (f : A → B) (xs : List A) (i : ℕ) (d : A) (e : B) → i < length xs → get_or (map f xs) i e ≡ f (get_or xs i d)
mapped_item f [] i d e h = absurd (omega (arith, h))
mapped_item f (x ∷ xs) zero d e h = refl
mapped_item f (x ∷ xs) (suc i) d e h = mapped_item f xs i d e (omega (arith, h))

-- equal slices of numbers are one list
pub same_numbers : (xs ys : List ℕ) (r : Bool) → r ≡ pointwise eqb xs ys → (r ≡ true) ↔ (xs ≡ ys)
same_numbers xs ys r e = slice_eq-Decides Decides-eqb xs ys r e

pub pushed_mapped : {A B : Type 0} (f : A → B) (xs : List A) (x : A) (y : B) → Contains (map f (xs ++ x ∷ [])) y ↔ (Contains (map f xs) y ⊎ (y ≡ f x))
pushed_mapped {A} {B} f xs x y =
    subst (λ (ys : List B). Contains ys y ↔ (Contains (map f xs) y ⊎ (y ≡ f x))) (sym (mapped_pushed f xs x)) (contains_pushed (map f xs) (f x) y)

pub no_items_left : {A : Type 0} (xs : List A) → (¬ (0 < length xs)) → xs ≡ []
no_items_left [] h = refl
no_items_left (x ∷ xs) h = absurd (h (omega arith))

-- what holds anyway holds where a call fails
pub on_err_of : {A E P : Type 0} (r : Result A E) → P → OnErr r P
on_err_of (Ok x) p = tt
on_err_of (Err e) p = p
