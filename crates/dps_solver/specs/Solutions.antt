-- Solutions of constraint systems, declaratively: what the attacker may have put for the variables.
use Rattle.std.specs.Prelude.{◌≡◌, ℕ, List, Some, None, map, All}
use Rattle.std.specs.List.{AllZip}
use Rattle.dps_terms.specs.Tree.{var, Tree, leaf}
use Rattle.dps_terms.specs.Replace.{substitute, put_entries}
use Rattle.dps_unify.specs.Order.{level_of}
use Rattle.dps_unify.specs.Unifier.{Unifies}
use Rattle.dps_unify.specs.Matching.{Keeps}
use Rattle.dps_know.specs.Know.{compositions, IsNormal}
use Rattle.dps_solver.specs.Levels.{IsGroundUpTo, AnyRigidName}
use Rattle.dps_solver.specs.Scene.{Disequation, System, Scene, Ask}
use Rattle.dps_solver.specs.declared.scene.Target.{Target}

-- each variable stands for itself
abbrev pub identity : ℕ → Tree
identity x = leaf (var x)

-- a substitution of the free variables alone makes each pattern its tree
abbrev pub IsMatched : List ℕ → List (Tree × Tree) → Type 0
IsMatched free pairs = (r : ℕ → Tree) × Keeps free r × All (λ p. substitute r p.1 ≡ p.0) pairs

-- the same, with z put into trees and patterns first
abbrev pub IsMatchedUnder : (ℕ → Tree) → Disequation → Type 0
IsMatchedUnder z d = IsMatched d.free (map (λ p. (substitute z p.0, substitute z p.1)) d.pairs)

-- with z put in, the tree is normal
abbrev pub IsNormalUnder : (ℕ → Tree) → System → Tree → Type 0
IsNormalUnder z system t = IsNormal (map (substitute z) (compositions system.know)) t

-- With z put for the variables, each label tree is normal and no disequation is matched. Under the identity this says
-- that the system is consistent, and under a solution that it is fulfilled.
pub record Respects (system : System) (z : ℕ → Tree) : Type 0 where
  pub labels : All (λ t. IsNormalUnder z system (substitute z t)) system.labels
  pub disequations : All (λ d. ¬ IsMatchedUnder z d) system.disequations

-- A choice gives each variable of the system a ground tree of at most its level, with rigid names from the given set
-- alone, and leaves all others.
pub record IsChoice (names : ℕ → Type 0) (system : System) (s : ℕ → Tree) : Type 0 where
  pub trees : (x l : ℕ) → level_of system.levels x ≡ Some l → IsGroundUpTo names system.m system.know l (s x)
  pub others : (x : ℕ) → level_of system.levels x ≡ None → s x ≡ leaf (var x)

-- A solution: a choice of normal trees under which each label tree is normal and each disequation holds.
pub record IsSolution (names : ℕ → Type 0) (system : System) (s : ℕ → Tree) : Type 0 where
  pub choice : IsChoice names system s
  pub normal : (x l : ℕ) → level_of system.levels x ≡ Some l → IsNormalUnder s system (s x)
  pub respects : Respects system s

-- the value of what s gives a variable, where g lists the entries' values
abbrev pub valued : List Tree → (ℕ → Tree) → ℕ → Tree
valued g s x = put_entries g (s x)

-- g lists the entries' values under s: each is the scene's, with the values of the variables put in
abbrev pub IsValuation : Scene → (ℕ → Tree) → List Tree → Type 0
IsValuation scene s g = g ≡ map (substitute (valued g s)) scene.values

-- Under s, whose valuation is g, these values of all variables and these trees meet the ask: the equations hold, and each
-- target has a ground tree of at most its level with its value. The variables of the scene have the values of their
-- trees, and those of rules any values.
pub record MeetsBy (scene : Scene) (ask : Ask) (s : ℕ → Tree) (g : List Tree) (eta : ℕ → Tree) (trees : List Tree) : Type 0 where
  pub agrees : (x l : ℕ) → level_of scene.system.levels x ≡ Some l → eta x ≡ valued g s x
  pub equations : Unifies eta ask.equations
  pub targets :
      AllZip
      (λ (z : Target) t. IsGroundUpTo AnyRigidName scene.system.m scene.system.know z.level t × (put_entries g t ≡ substitute eta z.term))
      ask.targets trees

-- a solution meets the ask
pub record Meets (scene : Scene) (ask : Ask) (s : ℕ → Tree) : Type 0 where
  pub values : List Tree
  pub valuation : IsValuation scene s values
  pub eta : ℕ → Tree
  pub trees : List Tree
  pub meets : MeetsBy scene ask s values eta trees
