-- What listed solutions are like, each stated as one fact.
use Rattle.std.specs.Prelude.{◌≡◌, ◌≢◌, ◌↔◌, ◌⊎◌, ◌<◌, ℕ, List, [], ◌∷◌, Some, None, Contains, ⊤}
use Rattle.dps_terms.specs.Tree.{var, Tree, leaf, StandsIn}
use Rattle.dps_terms.specs.Kinds.{NoRigidName}
use Rattle.dps_unify.specs.Order.{level_of}
use Rattle.dps_solver.specs.Levels.{IsVariableUpTo, IsGroundUpTo}
use Rattle.dps_solver.specs.Scene.{Disequation, Scene, Ask}
use Rattle.dps_solver.specs.declared.scene.Target.{Target}
use Rattle.dps_solver.specs.Solutions.{IsChoice, IsNormalUnder, IsMatched}
use Rattle.dps_solver.specs.Search.{GeneralSolution, IsPlain, Finds}
use Rattle.dps_directions.specs.Valid.{IsValid, Fits}
use Rattle.dps_directions.specs.Values.{AreTreesOver}
use Rattle.dps_directions.specs.Directions.{IsInstance, HoldsRigidNamesOf}

-- the search for an ask that fits the valid scene lists this solution
pub record IsListedFor (names : ℕ → Type 0) (scene : Scene) (ask : Ask) (solution : GeneralSolution) : Type 0 where
  pub valid : IsValid names scene
  pub fits : Fits scene ask
  pub list : List GeneralSolution
  pub moves : ℕ
  pub finds : Finds scene ask list moves
  pub listed : Contains list solution

-- A solution is plain exactly where it binds no variable of the scene in values.
abbrev pub PlainBindNothing : (ℕ → Type 0) → Scene → Ask → Type 0
PlainBindNothing names scene ask =
    (solution : GeneralSolution) → IsListedFor names scene ask solution
    → IsPlain solution ↔ ((x l : ℕ) → level_of scene.system.levels x ≡ Some l → solution.theta x ≡ leaf (var x))

-- Bindings hold no rigid name where all variables have smaller levels than m.
abbrev pub LowHoldNone : (ℕ → Type 0) → Scene → Ask → Type 0
LowHoldNone names scene ask =
    (solution : GeneralSolution) → IsListedFor names scene ask solution
    → ((x l : ℕ) → level_of scene.system.levels x ≡ Some l → l < scene.system.m)
    → HoldsRigidNamesOf NoRigidName scene solution

-- What makes bindings a choice has at most the level of each variable that is so bound, and is normal where the choice is.
abbrev pub PartsAreUpTo : (ℕ → Type 0) → Scene → Type 0
PartsAreUpTo names scene =
    (solution : GeneralSolution) (a s : ℕ → Tree) → IsChoice names scene.system s → IsInstance scene solution a s
    → (x l y : ℕ) → level_of scene.system.levels x ≡ Some l → StandsIn (var y) (solution.bindings x)
    → IsGroundUpTo names scene.system.m scene.system.know l (a y)
    × (IsNormalUnder s scene.system (s x) → IsNormalUnder s scene.system (a y))

-- the variables of the tree are among these
abbrev pub HoldsOnly : (ℕ → Type 0) → Tree → Type 0
HoldsOnly known t = (x : ℕ) → StandsIn (var x) t → known x

abbrev pub IsOfScene : Scene → ℕ → Type 0
IsOfScene scene x = (l : ℕ) × (level_of scene.system.levels x ≡ Some l)

-- The left term of each equation holds known variables and those of the right terms before it.
abbrev pub AreSolvedInTurn : (ℕ → Type 0) → List (Tree × Tree) → Type 0
AreSolvedInTurn known [] = ⊤
AreSolvedInTurn known (p ∷ ps) = HoldsOnly known p.0 × AreSolvedInTurn (λ x. known x ⊎ StandsIn (var x) p.1) ps

-- Where equations are solved in turn, a plain solution puts a term over the scene's variables for each variable of a right
-- term.
abbrev pub PlainAreOverScene : (ℕ → Type 0) → Scene → Ask → Type 0
PlainAreOverScene names scene ask =
    (solution : GeneralSolution) → IsListedFor names scene ask solution → IsPlain solution
    → AreSolvedInTurn (IsOfScene scene) ask.equations
    → (p : Tree × Tree) → Contains ask.equations p → (x : ℕ) → StandsIn (var x) p.1
    → HoldsOnly (IsOfScene scene) (solution.theta x)

-- the ask holds no variable of a rule
pub record HasNoRuleVariable (scene : Scene) (ask : Ask) : Type 0 where
  pub equations : (p : Tree × Tree) → Contains ask.equations p → HoldsOnly (IsOfScene scene) p.0 × HoldsOnly (IsOfScene scene) p.1
  pub targets : (z : Target) → Contains ask.targets z → HoldsOnly (IsOfScene scene) z.term

-- There a plain solution binds nothing at all, and its answers hold the scene's variables alone.
abbrev pub PlainAreIdentity : (ℕ → Type 0) → Scene → Ask → Type 0
PlainAreIdentity names scene ask =
    (solution : GeneralSolution) → IsListedFor names scene ask solution → IsPlain solution → HasNoRuleVariable scene ask
    → ((x : ℕ) → solution.theta x ≡ leaf (var x))
    × ((t : Tree) → Contains solution.answers t → HoldsOnly (IsOfScene scene) t)

-- a disequation that excludes the bindings: a pair for each variable that is bound, with new variables alone free
pub record ExcludesBindings (scene : Scene) (solution : GeneralSolution) (d : Disequation) : Type 0 where
  pub pairs :
      (x l : ℕ) → level_of scene.system.levels x ≡ Some l → solution.bindings x ≢ leaf (var x)
      → Contains d.pairs (leaf (var x), solution.bindings x)
  pub free : (y : ℕ) → Contains d.free y → level_of scene.system.levels y ≡ None

-- It is not matched, so the system stays consistent with it.
abbrev pub BindingsAreNotMatched : (ℕ → Type 0) → Scene → Ask → Type 0
BindingsAreNotMatched names scene ask =
    (solution : GeneralSolution) (d : Disequation) → IsListedFor names scene ask solution → ¬ IsPlain solution
    → ExcludesBindings scene solution d → ¬ IsMatched d.free d.pairs

-- A variable of the scene that is bound to a new variable shares it with one of smaller level: so a new variable never has
-- the level of a variable that is bound to it.
abbrev pub NewAreLower : (ℕ → Type 0) → Scene → Ask → Type 0
NewAreLower names scene ask =
    (solution : GeneralSolution) → IsListedFor names scene ask solution
    → (x l y : ℕ) → level_of scene.system.levels x ≡ Some l → solution.bindings x ≡ leaf (var y) → level_of scene.system.levels y ≡ None
    → (v j : ℕ) × (level_of scene.system.levels v ≡ Some j) × StandsIn (var y) (solution.bindings v) × (j < l)

-- Bindings are trees of at most the level of what they are bound to, over any levels of what stands in them that are not
-- above it.
abbrev pub BindingsAreUpTo : (ℕ → Type 0) → Scene → Ask → Type 0
BindingsAreUpTo names scene ask =
    (solution : GeneralSolution) (levels : List (ℕ × ℕ)) → IsListedFor names scene ask solution → HoldsRigidNamesOf names scene solution
    → ((x l y : ℕ) → level_of scene.system.levels x ≡ Some l → StandsIn (var y) (solution.bindings x) → IsVariableUpTo levels l y)
    → AreTreesOver names scene.system levels solution.bindings
