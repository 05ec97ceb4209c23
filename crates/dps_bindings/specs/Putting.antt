-- Substitutions put one after the other.
use Rattle.std.specs.Prelude.{◌≡◌, ◌⊎◌, ℕ, nat_eq, if◌then◌else◌, List, [], ◌∷◌, Some, None, slice_get}
use Rattle.dps_terms.specs.Tree.{var, Tree, leaf}
use Rattle.dps_terms.specs.Replace.{substitute}
use Rattle.dps_terms.specs.Bindings.{bound, image}
use Rattle.dps_unify.specs.Unifier.{IsMgu}
use Rattle.dps_solver.specs.Search.{AreNewlyBound}

-- the pair's term, with z put in
abbrev pub under : (ℕ → Tree) → ℕ × Tree → ℕ × Tree
under z p = (p.0, substitute z p.1)

-- what the tree becomes when the pairs are put one after the other, each in what stands by then
abbrev pub after_all : List (ℕ × Tree) → Tree → Tree
after_all [] t = t
after_all (p ∷ ps) t = after_all ps (substitute (image (p ∷ [])) t)

abbrev pub in_turn : List (ℕ × Tree) → ℕ → Tree
in_turn ps x = after_all ps (leaf (var x))

-- t for x, and z for the others
abbrev pub image_with : ℕ → Tree → (ℕ → Tree) → ℕ → Tree
image_with x t z y = if nat_eq y x then t else z y

-- the variable and its term are the pair at this place
abbrev pub IsPlaceOf : List (ℕ × Tree) → ℕ → ℕ → Type 0
IsPlaceOf pairs x i = (t : Tree) × (slice_get pairs i ≡ Some (x, t))

-- What is bound stays. Besides, the variable alone is bound, to what u binds it to, where it was not bound and u binds it.
pub record IsOnceBound (u : List (ℕ × Tree)) (x : ℕ) (old new : List (ℕ × Tree)) : Type 0 where
  pub keeps : (n : ℕ) (t : Tree) → bound old n ≡ Some t → bound new n ≡ Some t
  pub adds : (n : ℕ) (t : Tree) → bound new n ≡ Some t → (bound old n ≡ Some t) ⊎ ((bound old n ≡ None) × (bound u n ≡ Some t))
  pub binds : (t : Tree) → bound u x ≡ Some t → (v : Tree) × (bound new x ≡ Some v)

-- The pairs have a most general unifier. With it put besides, theta becomes after, and these variables with a level are
-- newly bound.
pub record IsUnifiedBy (levels : List (ℕ × ℕ)) (pairs : List (Tree × Tree)) (theta after : ℕ → Tree) (bound : List (ℕ × ℕ)) : Type 0 where
  pub unifier : List (ℕ × Tree)
  pub is : IsMgu levels pairs unifier
  pub becomes : after ≡ (λ x. substitute (image unifier) (theta x))
  pub newly : AreNewlyBound levels theta after bound
