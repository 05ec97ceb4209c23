-- What two trees with different roots force.
use Rattle.std.specs.Prelude.{◌≡◌, ◌⊎◌, ℕ, List}
use Rattle.dps_terms.specs.Tree.{var, Tree, leaf}
use Rattle.dps_terms.specs.Replace.{substitute}
use Rattle.dps_unify.specs.Order.{Precedes}

-- no substitution makes the two equal
abbrev pub AreNeverEqual : Tree → Tree → Type 0
AreNeverEqual a b = (r : ℕ → Tree) → substitute r a ≡ substitute r b → ⊥

-- one of the two is the variable x and the other is v, another tree, and a variable v comes before x
pub record IsForced (levels : List (ℕ × ℕ)) (a b : Tree) (x : ℕ) (v : Tree) : Type 0 where
  pub sides : ((a ≡ leaf (var x)) × (b ≡ v)) ⊎ ((b ≡ leaf (var x)) × (a ≡ v))
  pub other : v ≡ leaf (var x) → ⊥
  pub first : (y : ℕ) → v ≡ leaf (var y) → Precedes levels y x
