-- The attacker's own names for the variables of a system.
use Rattle.std.specs.Prelude.{ℕ, ◌+◌, ◌<◌, is_some, if◌then◌else◌, All}
use Rattle.dps_terms.specs.declared.PublicName.TheVariants.{At}
use Rattle.dps_terms.specs.Tree.{public, var, Tree, leaf, StandsIn}
use Rattle.dps_unify.specs.Order.{level_of}
use Rattle.dps_know.specs.Know.{compositions}
use Rattle.dps_solver.specs.Scene.{Disequation, System, Scene}
use Rattle.dps_solver.specs.Solutions.{IsSolution}
use Rattle.dps_directions.specs.Valid.{IsValid}

-- each of the attacker's own names in the tree has a smaller number
abbrev pub HasNamesBelow : ℕ → Tree → Type 0
HasNamesBelow first t = (k : ℕ) → StandsIn (public (At k)) t → k < first

-- and so in each tree of the system that a solution is judged by
pub record AreNamesBelow (first : ℕ) (system : System) : Type 0 where
  pub labels : All (HasNamesBelow first) system.labels
  pub recorded : All (HasNamesBelow first) (compositions system.know)
  pub disequations :
      All
      (λ (d : Disequation). All (λ (p : Tree × Tree). HasNamesBelow first p.0 × HasNamesBelow first p.1) d.pairs)
      system.disequations

-- each variable of the system gets a name of its own, from this number on
abbrev pub own_names : ℕ → System → ℕ → Tree
own_names first system x = if is_some (level_of system.levels x) then leaf (public (At (first + x))) else leaf (var x)

-- Names that stand nowhere in a valid scene are a solution.
abbrev pub OwnNamesSolve : (ℕ → Type 0) → Scene → Type 0
OwnNamesSolve names scene =
    (first : ℕ) → IsValid names scene → AreNamesBelow first scene.system → IsSolution names scene.system (own_names first scene.system)
