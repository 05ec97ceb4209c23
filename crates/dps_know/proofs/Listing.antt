-- Elements of lists.
use Rattle.std.proofs.Common.{◌≡◌, zero, suc, List, [], ◌∷◌, ◌++◌, map, ◌⊎◌, inl, inr, refl, sym, arith, subst, Contains, slice_index_or}
use Rattle.std.specs.Prelude.{All}
use Rattle.std.proofs.lemmas.List.{get_or_default}

pub in_cons : {X : Type 0} (x y : X) (ys : List X) → Contains (y ∷ ys) x → (x ≡ y) ⊎ Contains ys x
in_cons x y ys (zero, l, e) = inl (sym e)
in_cons x y ys (suc k, l, e) = inr (k, omega (arith, l), e)

pub in_head : {X : Type 0} (y : X) (ys : List X) → Contains (y ∷ ys) y
in_head y ys = (0, omega arith, refl)

pub in_tail : {X : Type 0} (x y : X) (ys : List X) → Contains ys x → Contains (y ∷ ys) x
in_tail x y ys h = (suc h.0, omega (arith, h.1), h.2)

pub in_none : {X : Type 0} (x : X) → Contains [] x → ⊥
in_none x h = omega (arith, h.1)

pub in_left : {X : Type 0} (x : X) (xs ys : List X) → Contains xs x → Contains (xs ++ ys) x
in_left x [] ys h = absurd (in_none x h)
in_left x (y ∷ xs) ys h = elim (in_cons x y xs h) [
  | inl e ↦ subst (λ z. Contains (z ∷ (xs ++ ys)) x) e (in_head x (xs ++ ys))
  | inr k ↦ in_tail x y (xs ++ ys) (in_left x xs ys k)
]

pub in_right : {X : Type 0} (x : X) (xs ys : List X) → Contains ys x → Contains (xs ++ ys) x
in_right x [] ys h = h
in_right x (y ∷ xs) ys h = in_tail x y (xs ++ ys) (in_right x xs ys h)

pub in_append : {X : Type 0} (x : X) (xs ys : List X) → Contains (xs ++ ys) x → Contains xs x ⊎ Contains ys x
in_append x [] ys h = inr h
in_append x (y ∷ xs) ys h = elim (in_cons x y (xs ++ ys) h) [
  | inl e ↦ inl (subst (λ z. Contains (z ∷ xs) x) e (in_head x xs))
  | inr k ↦ elim (in_append x xs ys k) [ inl l ↦ inl (in_tail x y xs l) | inr l ↦ inr l ]
]

pub mapped_contains : {X Y : Type 0} (f : X → Y) (xs : List X) (x : X) → Contains xs x → Contains (map f xs) (f x)
mapped_contains f [] x h = absurd (in_none x h)
mapped_contains f (y ∷ xs) x h = elim (in_cons x y xs h) [
  | inl e ↦ subst (λ z. Contains (f z ∷ map f xs) (f x)) e (in_head (f x) (map f xs))
  | inr k ↦ in_tail (f x) (f y) (map f xs) (mapped_contains f xs x k)
]

pub all_of : {X : Type 0} (P : X → Type 0) (xs : List X) → ((x : X) → Contains xs x → P x) → All P xs
all_of P xs f k d l = f (slice_index_or xs k d) (k, l, get_or_default xs k (slice_index_or xs k d) d l)
