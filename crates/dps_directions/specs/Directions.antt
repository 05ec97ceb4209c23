-- What the list of the search says of all solutions, each stated as one fact.
use Rattle.std.specs.Prelude.{◌≡◌, ◌↔◌, ◌⊎◌, ℕ, List, [], Some, None, map, All, Any, Contains}
use Rattle.dps_terms.specs.Tree.{var, rigid, Tree, leaf, StandsIn}
use Rattle.dps_terms.specs.Replace.{substitute}
use Rattle.dps_unify.specs.Order.{level_of}
use Rattle.dps_know.specs.Know.{compositions, IsNormal}
use Rattle.dps_solver.specs.Levels.{IsGroundUpTo, AnyRigidName}
use Rattle.dps_solver.specs.Scene.{Scene, Ask}
use Rattle.dps_solver.specs.Solutions.{IsChoice, IsSolution, valued, IsValuation, MeetsBy, Meets, IsNormalUnder}
use Rattle.dps_solver.specs.Search.{GeneralSolution, Finds}
use Rattle.dps_directions.specs.Valid.{IsValid, Fits, IsSharp}

-- the variable stands in the tree of a variable of the scene
abbrev pub StandsInBinding : Scene → GeneralSolution → ℕ → Type 0
StandsInBinding scene solution y =
    (x l : ℕ) × (level_of scene.system.levels x ≡ Some l) × StandsIn (var y) (solution.bindings x)

-- Trees a for the variables that a listed solution leaves: one that stands in bindings has a ground tree of at most the
-- level of each variable that is so bound (the least of these is its level), and one that stands in answers one of level
-- at most m.
pub record IsAssignment (names : ℕ → Type 0) (scene : Scene) (solution : GeneralSolution) (a : ℕ → Tree) : Type 0 where
  pub bound :
      (x l y : ℕ) → level_of scene.system.levels x ≡ Some l → StandsIn (var y) (solution.bindings x)
      → IsGroundUpTo names scene.system.m scene.system.know l (a y)
  pub asked :
      (t : Tree) (y : ℕ) → Contains solution.answers t → StandsIn (var y) t
      → IsGroundUpTo AnyRigidName scene.system.m scene.system.know scene.system.m (a y)

-- s is what the bindings become under a
pub record IsInstance (scene : Scene) (solution : GeneralSolution) (a s : ℕ → Tree) : Type 0 where
  pub variables : (x l : ℕ) → level_of scene.system.levels x ≡ Some l → s x ≡ substitute a (solution.bindings x)
  pub others : (x : ℕ) → level_of scene.system.levels x ≡ None → s x ≡ leaf (var x)

-- no binding holds a rigid name but those of the set
abbrev pub HoldsRigidNamesOf : (ℕ → Type 0) → Scene → GeneralSolution → Type 0
HoldsRigidNamesOf names scene solution =
    (x l k : ℕ) → level_of scene.system.levels x ≡ Some l → StandsIn (rigid k) (solution.bindings x) → names k

-- First direction. A listed solution under an assignment is a choice. With its answers as the targets' trees, and with
-- what theta gives as values, it meets the ask: a variable of a tree has the tree's value there, and a free variable of a
-- rule any value. So where the trees are normal and the system is respected, it is a solution that meets the ask.
abbrev pub ListedMeet : (ℕ → Type 0) → Scene → Ask → Type 0
ListedMeet names scene ask =
    (list : List GeneralSolution) (moves : ℕ) (solution : GeneralSolution) (a s base : ℕ → Tree) (g : List Tree)
    → IsValid names scene → Fits scene ask
    → Finds scene ask list moves → Contains list solution → HoldsRigidNamesOf names scene solution
    → IsAssignment names scene solution a → IsInstance scene solution a s → IsValuation scene s g
    → ((y : ℕ) → StandsInBinding scene solution y ⊎ Any (λ t. StandsIn (var y) t) solution.answers → base y ≡ valued g a y)
    → IsChoice names scene.system s
    × MeetsBy scene ask s g (λ x. substitute base (solution.theta x)) (map (substitute a) solution.answers)

-- the solution s is an instance of a listed one, by normal trees
pub record IsListed (names : ℕ → Type 0) (scene : Scene) (list : List GeneralSolution) (s : ℕ → Tree) : Type 0 where
  pub solution : GeneralSolution
  pub listed : Contains list solution
  pub a : ℕ → Tree
  pub assignment : IsAssignment names scene solution a
  pub normal : (y : ℕ) → IsNormal (map (substitute s) (compositions scene.system.know)) (a y)
  pub becomes : IsInstance scene solution a s

-- Second direction. Each solution that meets the ask is an instance of a listed one.
abbrev pub MeetingAreListed : (ℕ → Type 0) → Scene → Ask → Type 0
MeetingAreListed names scene ask =
    (list : List GeneralSolution) (moves : ℕ) (s : ℕ → Tree)
    → IsValid names scene → Fits scene ask → Finds scene ask list moves
    → IsSolution names scene.system s → Meets scene ask s → IsListed names scene list s

-- So nothing is listed exactly where no solution meets the ask.
abbrev pub EmptyIsNone : (ℕ → Type 0) → Scene → Ask → Type 0
EmptyIsNone names scene ask =
    (list : List GeneralSolution) (moves : ℕ)
    → IsValid names scene → Fits scene ask → Finds scene ask list moves
    → ((solution : GeneralSolution) → Contains list solution → HoldsRigidNamesOf names scene solution)
    → (list ≡ []) ↔ ((s : ℕ → Tree) → IsSolution names scene.system s → ¬ Meets scene ask s)

-- Third direction. In a sharp scene a solution that meets the ask by normal trees is an instance of a listed one whose
-- answers become just these trees.
abbrev pub TreesAreListed : (ℕ → Type 0) → Scene → Ask → Type 0
TreesAreListed names scene ask =
    (list : List GeneralSolution) (moves : ℕ) (s eta : ℕ → Tree) (g trees : List Tree)
    → IsSharp names scene → Fits scene ask → Finds scene ask list moves
    → IsSolution names scene.system s → IsValuation scene s g → MeetsBy scene ask s g eta trees
    → All (λ t. IsNormalUnder s scene.system t) trees
    → (listed : IsListed names scene list s) × (map (substitute listed.a) listed.solution.answers ≡ trees)
