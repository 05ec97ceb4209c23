-- Substitutions that make the two terms of each pair equal, and the most general one. A substitution is a function from
-- variables to trees; a list of pairs stands for the one that leaves all other variables (`image`).
use Rattle.std.specs.Prelude.{◌≡◌, ℕ, ◌⊎◌, List, Some, All, Any}
use Rattle.dps_terms.specs.Tree.{Tree, leaf, var, StandsIn}
use Rattle.dps_terms.specs.Replace.{substitute}
use Rattle.dps_terms.specs.Bindings.{bound, image}
use Rattle.dps_unify.specs.Order.{Precedes}

-- the two terms of each pair are equal under the substitution
abbrev pub Unifies : (ℕ → Tree) → List (Tree × Tree) → Type 0
Unifies r pairs = All (λ p. substitute r p.0 ≡ substitute r p.1) pairs

-- no substitution makes the pairs equal
abbrev pub IsNotUnifiable : List (Tree × Tree) → Type 0
IsNotUnifiable pairs = (r : ℕ → Tree) → ¬ Unifies r pairs

-- the variable stands in a term of some pair
abbrev pub IsVariableOf : List (Tree × Tree) → ℕ → Type 0
IsVariableOf pairs n = Any (λ p. StandsIn (var n) p.0 ⊎ StandsIn (var n) p.1) pairs

-- The idempotent most general unifier in which each class of equal variables is represented by its least one.
pub record IsMgu (levels : List (ℕ × ℕ)) (pairs : List (Tree × Tree)) (s : List (ℕ × Tree)) : Type 0 where
  pub unifies : Unifies (image s) pairs
  -- whatever unifies the pairs is an instance of it: by itself
  pub general : (r : ℕ → Tree) → Unifies r pairs → (n : ℕ) → substitute r (image s n) ≡ r n
  pub idempotent : (n : ℕ) → substitute (image s) (image s n) ≡ image s n
  -- a variable that is bound to another one comes after it
  pub least : (x y : ℕ) → bound s x ≡ Some (leaf (var y)) → Precedes levels y x
  -- only variables of the pairs are bound
  pub binds : (n : ℕ) (t : Tree) → bound s n ≡ Some t → IsVariableOf pairs n
  -- and only such stand in what they are bound to
  pub holds : (n : ℕ) (t : Tree) → bound s n ≡ Some t → (m : ℕ) → StandsIn (var m) t → IsVariableOf pairs m
