-- Facts of some element and of pairs of elements of lists.
use Rattle.std.proofs.Common.{List, [], ◌∷◌, map, inl, inr, subst, Contains}
use Rattle.std.specs.Prelude.{Any}
use Rattle.std.specs.List.{AllZip}
use Rattle.dps_unify.proofs.Pairs.{any_first, any_rest}
use Rattle.dps_know.proofs.Listing.{in_cons, in_head, in_tail, in_none}

pub contains_any : {X : Type 0} (P : X → Type 0) (xs : List X) (x : X) → Contains xs x → P x → Any P xs
contains_any P [] x h p = absurd (in_none x h)
contains_any P (y ∷ xs) x h p = elim (in_cons x y xs h) [
  | inl e ↦ any_first P y xs (subst P e p)
  | inr k ↦ any_rest P y xs (contains_any P xs x k p)
]

pub zip_mapped : {X Y Z : Type 0} (R : X → Z → Type 0) (f : X → Y) (h : Y → Z) (xs : List X) → ((x : X) → Contains xs x → R x (h (f x))) → AllZip R xs (map h (map f xs))
zip_mapped R f h [] all = tt
zip_mapped R f h (x ∷ xs) all = (all x (in_head x xs), zip_mapped R f h xs (λ y c. all y (in_tail y x xs c)))

pub any_at : {X : Type 0} (P : X → Type 0) (xs : List X) → Any P xs → (x : X) × Contains xs x × P x
any_at P xs (k, x, l, e, p) = (x, (k, l, e), p)
