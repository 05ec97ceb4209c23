-- The lemmas behind the three directions, each stated as one fact.
use Rattle.std.specs.Prelude.{◌≡◌, ◌≤◌, ℕ, List, [], ◌∷◌, Some, Contains}
use Rattle.dps_terms.specs.Tree.{var, Tree, StandsIn}
use Rattle.dps_terms.specs.Replace.{substitute}
use Rattle.dps_terms.specs.Bindings.{image}
use Rattle.dps_unify.specs.Order.{level_of}
use Rattle.dps_unify.specs.Unifier.{Unifies, IsMgu}
use Rattle.dps_solver.specs.Scene.{Scene, Ask}
use Rattle.dps_solver.specs.declared.scene.Target.{Target}
use Rattle.dps_solver.specs.Solutions.{identity, Respects}
use Rattle.dps_solver.specs.Search.{GeneralSolution, Branch, Way, ways, Leads, Finds, bindings_of, solution_of, unbound, AreNewlyBound, with_bound}
use Rattle.dps_directions.specs.Valid.{IsValid, Fits}
use Rattle.dps_directions.proofs.Invariant.{IsKept}
use Rattle.dps_directions.proofs.Course.{Course, GoesWith}

-- The start of a search keeps what branches keep.
abbrev pub StartIsKept : (ℕ → Type 0) → Scene → Ask → Type 0
StartIsKept names scene ask =
    (u : List (ℕ × Tree)) (bound : List (ℕ × ℕ))
    → IsValid names scene → Fits scene ask
    → IsMgu scene.system.levels ask.equations u → AreNewlyBound scene.system.levels identity (image u) bound
    → IsKept scene ask (with_bound bound (record (unbound scene ask) { theta = image u }))

-- Each way keeps it.
abbrev pub WaysKeep : (ℕ → Type 0) → Scene → Ask → Type 0
WaysKeep names scene ask =
    (b c : Branch) (z : Target) (rest : List Target) (w : Way)
    → IsValid names scene → Fits scene ask
    → IsKept scene ask b → b.targets ≡ z ∷ rest → Contains (ways scene.system z.level (substitute b.theta z.term)) w
    → Leads scene b z rest w c → IsKept scene ask c

-- a listed solution comes from a branch without targets that keeps it
pub record IsOutcome (scene : Scene) (ask : Ask) (solution : GeneralSolution) : Type 0 where
  pub last : Branch
  pub kept : IsKept scene ask last
  pub solved : Unifies last.theta ask.equations
  pub no_target : last.targets ≡ []
  pub respects : Respects scene.system (bindings_of scene last)
  pub is : solution ≡ solution_of scene ask last

abbrev pub ListedAreOutcomes : (ℕ → Type 0) → Scene → Ask → Type 0
ListedAreOutcomes names scene ask =
    (list : List GeneralSolution) (moves : ℕ) (solution : GeneralSolution)
    → IsValid names scene → Fits scene ask → Finds scene ask list moves → Contains list solution → IsOutcome scene ask solution

-- A new variable that stands in bindings has the least level of the variables that are so bound.
abbrev pub LevelIsLeast : Scene → Ask → Type 0
LevelIsLeast scene ask =
    (solution : GeneralSolution) (o : IsOutcome scene ask solution) (x k y l : ℕ)
    → level_of scene.system.levels x ≡ Some k → StandsIn (var y) (solution.bindings x) → level_of o.last.levels y ≡ Some l
    → (l ≤ k) × ((v j : ℕ) × (level_of scene.system.levels v ≡ Some j) × StandsIn (var y) (solution.bindings v) × (j ≡ l))

-- what a solution becomes at the end of a branch that it goes with
pub record IsReached (names : ℕ → Type 0) (scene : Scene) (ask : Ask) (course : Course names scene ask) (list : List GeneralSolution) : Type 0 where
  pub solution : GeneralSolution
  pub listed : Contains list solution
  pub outcome : IsOutcome scene ask solution
  pub eta : ℕ → Tree
  pub psi : ℕ → Tree
  pub goes : GoesWith names scene ask course outcome.last eta psi
