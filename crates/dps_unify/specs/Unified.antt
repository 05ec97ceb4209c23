-- What bindings are when they unify pairs.
use Rattle.std.specs.Prelude.{◌↔◌, ℕ, List, map}
use Rattle.dps_terms.specs.Tree.{Tree}
use Rattle.dps_terms.specs.Replace.{substitute}
use Rattle.dps_unify.specs.Unifier.{Unifies, IsVariableOf}
use Rattle.dps_unify.specs.Chain.{Fulfils, solved, IsHeld, IsChain, IsLeast}

-- what fulfils the bindings is just what unifies the pairs
pub record IsUnified (levels : List (ℕ × ℕ)) (pairs : List (Tree × Tree)) (bindings : List (ℕ × Tree)) : Type 0 where
  pub chain : IsChain bindings
  pub least : IsLeast levels bindings
  pub same : (r : ℕ → Tree) → Unifies r pairs ↔ Fulfils r bindings
  pub within : (n : ℕ) → IsHeld bindings n → IsVariableOf pairs n

-- each bound variable with what it becomes in the end
abbrev pub all_solved : List (ℕ × Tree) → List (ℕ × Tree)
all_solved bindings = map (λ p. (p.0, substitute (solved bindings) p.1)) bindings
