-- Pairs of terms that are still to become equal, and the first parts of them that differ.
use Rattle.std.specs.Prelude.{◌≡◌, ◌↔◌, ◌⊎◌, ℕ, List, map, Option, Some, None}
use Rattle.dps_terms.specs.Tree.{var, Tree, leaf, StandsIn}
use Rattle.dps_terms.specs.Replace.{substitute}
use Rattle.dps_terms.specs.Views.{HaveSameRoot}
use Rattle.dps_terms.specs.Seen.{seen}
use Rattle.dps_unify.specs.Unifier.{Unifies, IsVariableOf}
use Rattle.dps_unify.specs.Chain.{Fulfils, IsHeld, IsResolved}
use Rattle.dps_unify.specs.declared.difference.Parts.{Parts}

-- the trees of borrowed pairs
abbrev pub pairs_of : List Parts → List (Tree × Tree)
pairs_of parts = map (λ d. (seen d.left, seen d.right)) parts

-- the variables that the two trees are, where both are variables
abbrev pub AreVariables : Tree → Tree → Option (ℕ × ℕ) → Type 0
AreVariables a b (Some pair) = (a ≡ leaf (var pair.0)) × (b ≡ leaf (var pair.1))
AreVariables a b None = (x y : ℕ) → a ≡ leaf (var x) → ¬ (b ≡ leaf (var y))

-- whatever fulfils the bindings unifies the pairs
abbrev pub AreUnified : List (ℕ × Tree) → List (Tree × Tree) → Type 0
AreUnified bindings pairs = (r : ℕ → Tree) → Fulfils r bindings → Unifies r pairs

-- what remains of pairs of which some were taken apart
pub record Remains (bindings : List (ℕ × Tree)) (before after : List (Tree × Tree)) : Type 0 where
  pub same : (r : ℕ → Tree) → Fulfils r bindings → Unifies r before ↔ Unifies r after
  pub within : (n : ℕ) → IsVariableOf after n → IsVariableOf before n ⊎ IsHeld bindings n

-- of the pairs there remain two parts a and b, whose roots differ, and the pairs after
pub record IsDifference (bindings : List (ℕ × Tree)) (before after : List (Tree × Tree)) (a b : Tree) : Type 0 where
  pub apart : ¬ HaveSameRoot a b
  pub left : IsResolved bindings a
  pub right : IsResolved bindings b
  pub same : (r : ℕ → Tree) → Fulfils r bindings → Unifies r before ↔ (Unifies r after × (substitute r a ≡ substitute r b))
  pub within_pairs : (n : ℕ) → IsVariableOf after n → IsVariableOf before n ⊎ IsHeld bindings n
  pub within_parts : (n : ℕ) → StandsIn (var n) a ⊎ StandsIn (var n) b → IsVariableOf before n ⊎ IsHeld bindings n
