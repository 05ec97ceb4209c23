-- What mapped, joined and filtered lists hold.
use Rattle.std.proofs.Common.{◌≡◌, List, [], ◌∷◌, ◌++◌, map, refl, sym, ◌∙◌, ap, subst, inl, inr, arith, Bool, true, false, cond, filter}
use Rattle.std.specs.Prelude.{◌⊎◌, Contains, All}
use Rattle.std.specs.List.{flat_map}
use Rattle.std.proofs.lemmas.List.Elements.{All-nil, All-cons, All-head, All-tail, Contains-append_left, Contains-append_right, Contains-push, Contains-push_cases, Contains-append_cases}

pub contains_none : {A : Type 0} (x : A) → Contains [] x → ⊥
contains_none x h = absurd (omega (arith, h.1))

pub contains_one : {A : Type 0} (x y : A) → Contains (x ∷ []) y → y ≡ x
contains_one x y h = elim (Contains-push_cases [] x y h) [ inl k ↦ absurd (contains_none y k) | inr e ↦ sym e ]

pub contains_first : {A : Type 0} (x : A) (xs : List A) → Contains (x ∷ xs) x
contains_first x xs = Contains-append_left (x ∷ []) xs x (Contains-push [] x)

pub contains_later : {A : Type 0} (x : A) (xs : List A) (y : A) → Contains xs y → Contains (x ∷ xs) y
contains_later x xs y h = Contains-append_right (x ∷ []) xs y h

pub contains_cases : {A : Type 0} (x : A) (xs : List A) (y : A) → Contains (x ∷ xs) y → (y ≡ x) ⊎ Contains xs y
contains_cases x xs y h = elim (Contains-append_cases (x ∷ []) xs y h) [ inl k ↦ inl (contains_one x y k) | inr k ↦ inr k ]

pub mapped : {A B : Type 0} (f : A → B) (xs : List A) (x : A) → Contains xs x → Contains (map f xs) (f x)
mapped f [] x h = absurd (contains_none x h)
mapped {A} f (y ∷ xs) x h =
    elim (contains_cases y xs x h) [
      | inl e ↦ subst (λ (z : A). Contains (f y ∷ map f xs) (f z)) (sym e) (contains_first (f y) (map f xs))
      | inr k ↦ contains_later (f y) (map f xs) (f x) (mapped f xs x k)
    ]

pub from_mapped : {A B : Type 0} (f : A → B) (xs : List A) (y : B) → Contains (map f xs) y → (x : A) × Contains xs x × (y ≡ f x)
from_mapped f [] y h = absurd (contains_none y h)
from_mapped f (x ∷ xs) y h =
    elim (contains_cases (f x) (map f xs) y h) [
      | inl e ↦ (x, contains_first x xs, e)
      | inr k ↦ let d = from_mapped f xs y k in (d.0, contains_later x xs d.0 d.1, d.2)
    ]

pub joined : {A B : Type 0} (f : A → List B) (xs : List A) (x : A) (y : B) → Contains xs x → Contains (f x) y → Contains (flat_map f xs) y
joined f [] x y h k = absurd (contains_none x h)
joined {A} {B} f (a ∷ xs) x y h k =
    elim (contains_cases a xs x h) [
      | inl e ↦ Contains-append_left (f a) (flat_map f xs) y (subst (λ (z : A). Contains (f z) y) e k)
      | inr d ↦ Contains-append_right (f a) (flat_map f xs) y (joined f xs x y d k)
    ]

pub from_joined : {A B : Type 0} (f : A → List B) (xs : List A) (y : B) → Contains (flat_map f xs) y → (x : A) × Contains xs x × Contains (f x) y
from_joined f [] y h = absurd (contains_none y h)
from_joined f (x ∷ xs) y h =
    elim (Contains-append_cases (f x) (flat_map f xs) y h) [
      | inl k ↦ (x, contains_first x xs, k)
      | inr k ↦ let d = from_joined f xs y k in (d.0, contains_later x xs d.0 d.1, d.2)
    ]

one_more : {A : Type 0} (b : Bool) (x : A) (xs : List A) (y : A) → Contains xs y → Contains (cond b (x ∷ xs) xs) y
one_more true x xs y h = contains_later x xs y h
one_more false x xs y h = h

pub filtered : {A : Type 0} (p : A → Bool) (xs : List A) (x : A) → Contains xs x → p x ≡ true → Contains (filter p xs) x
filtered p [] x h e = absurd (contains_none x h)
filtered {A} p (a ∷ xs) x h e =
    elim (contains_cases a xs x h) [
      | inl d ↦ subst (λ b. Contains (cond b (a ∷ filter p xs) (filter p xs)) x) (sym (ap p (sym d) ∙ e)) (subst (λ (z : A). Contains (a ∷ filter p xs) z) (sym d) (contains_first a (filter p xs)))
      | inr k ↦ one_more (p a) a (filter p xs) x (filtered p xs x k e)
    ]

from_one :
    {A : Type 0} (p : A → Bool) (b : Bool) (a : A) (xs ys : List A) (x : A) → p a ≡ b → Contains (cond b (a ∷ ys) ys) x
    → (Contains ys x → Contains xs x × (p x ≡ true)) → Contains (a ∷ xs) x × (p x ≡ true)
from_one p false a xs ys x e h f = let k = f h in (contains_later a xs x k.0, k.1)
from_one {A} p true a xs ys x e h f =
    elim (contains_cases a ys x h) [
      | inl d ↦ (subst (λ (z : A). Contains (a ∷ xs) z) (sym d) (contains_first a xs), ap p d ∙ e)
      | inr c ↦ let k = f c in (contains_later a xs x k.0, k.1)
    ]

pub from_filtered : {A : Type 0} (p : A → Bool) (xs : List A) (x : A) → Contains (filter p xs) x → Contains xs x × (p x ≡ true)
from_filtered p [] x h = absurd (contains_none x h)
from_filtered p (a ∷ xs) x h = from_one p (p a) a xs (filter p xs) x refl h (λ k. from_filtered p xs x k)

pub all_left : {A : Type 0} (P : A → Type 0) (xs ys : List A) → All P (xs ++ ys) → All P xs
all_left P [] ys h = All-nil P
all_left P (x ∷ xs) ys h = All-cons P x xs (All-head P x (xs ++ ys) h) (all_left P xs ys (All-tail P x (xs ++ ys) h))

pub all_right : {A : Type 0} (P : A → Type 0) (xs ys : List A) → All P (xs ++ ys) → All P ys
all_right P [] ys h = h
all_right P (x ∷ xs) ys h = all_right P xs ys (All-tail P x (xs ++ ys) h)

pub all_weaker : {A : Type 0} (P Q : A → Type 0) (xs : List A) → ((x : A) → P x → Q x) → All P xs → All Q xs
all_weaker P Q [] f h = All-nil Q
all_weaker P Q (x ∷ xs) f h = All-cons Q x xs (f x (All-head P x xs h)) (all_weaker P Q xs f (All-tail P x xs h))
