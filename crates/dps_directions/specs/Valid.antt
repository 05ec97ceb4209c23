-- Scenes of which the solver's answer is sound and complete.
use Rattle.std.specs.Prelude.{◌≡◌, ◌≢◌, ◌⊎◌, ◌<◌, ◌≤◌, ◌^◌, ℕ, List, Some, None, map, length, All, Any, AllPairs, Contains, IsSome, ⊤}
use Rattle.dps_terms.specs.Tree.{Leaf, public, private, var, ax, entry, rigid, Tree, leaf, app, StandsIn}
use Rattle.dps_terms.specs.Replace.{substitute, put_entries}
use Rattle.dps_terms.specs.Kinds.{IsBuiltOf, AnySymbol}
use Rattle.dps_unify.specs.Order.{level_of}
use Rattle.dps_know.specs.Know.{entry_at, compositions, IsNormal}
use Rattle.dps_know.specs.declared.know.Entry.{Entry}
use Rattle.dps_solver.specs.Levels.{IsLeafUpTo, IsTreeUpTo, IsGroundUpTo, AnyRigidName}
use Rattle.dps_solver.specs.Scene.{Disequation, System, Scene, value_at, Ask}
use Rattle.dps_solver.specs.declared.scene.Target.{Target}
use Rattle.dps_solver.specs.Solutions.{identity, Respects, IsSolution, IsValuation}
use Rattle.dps_solver.specs.Search.{system_numbers}

-- two normal ground trees of level at most l that have one value are one tree
abbrev pub AreUnique : (ℕ → Type 0) → System → (ℕ → Tree) → List Tree → ℕ → Type 0
AreUnique names system s g l =
    (t u : Tree)
    → IsGroundUpTo names system.m system.know l t
    → IsGroundUpTo names system.m system.know l u
    → IsNormal (map (substitute s) (compositions system.know)) t
    → IsNormal (map (substitute s) (compositions system.know)) u
    → put_entries g t ≡ put_entries g u
    → t ≡ u

-- a name or a variable of the system
abbrev pub IsValueLeaf : System → Leaf → Type 0
IsValueLeaf system (public n) = ⊤
IsValueLeaf system (private n) = ⊤
IsValueLeaf system (rigid k) = ⊤
IsValueLeaf system (var x) = IsSome (level_of system.levels x)
IsValueLeaf system (ax j) = ⊥
IsValueLeaf system (entry i) = ⊥

-- the leaves of trees, or free variables
abbrev pub IsPatternLeaf : System → List ℕ → Leaf → Type 0
IsPatternLeaf system free x =
    IsLeafUpTo AnyRigidName system.m system.know system.levels system.m x ⊎ ((n : ℕ) × (x ≡ var n) × Contains free n)

-- a symbol stands at the root
abbrev pub IsComposed : Tree → Type 0
IsComposed (leaf x) = ⊥
IsComposed (app f ts) = ⊤

-- A valid scene. Its solutions may hold rigid names from the given set.
pub record IsValid (names : ℕ → Type 0) (scene : Scene) : Type 0 where
  -- an entry's value holds only variables of smaller level
  pub older :
      (i : ℕ) (e : Entry) (v : Tree) → entry_at scene.system.know i ≡ Some e → value_at scene i ≡ Some v
      → (x : ℕ) → StandsIn (var x) v → (l : ℕ) × (level_of scene.system.levels x ≡ Some l) × (l < e.level)
  -- each variable stands in a label tree
  pub labelled : (x l : ℕ) → level_of scene.system.levels x ≡ Some l → Any (λ t. StandsIn (var x) t) scene.system.labels
  -- no label tree has a recorded composition as a subtree, and no disequation is matched
  pub consistent : Respects scene.system identity
  -- under each solution trees of at most a variable's level are told by their values
  pub unique :
      (s : ℕ → Tree) (g : List Tree) → IsSolution names scene.system s → IsValuation scene s g
      → (x l : ℕ) → level_of scene.system.levels x ≡ Some l → AreUnique names scene.system s g l
  -- nothing but the scene's variables and entries stands in it, and free variables stand in patterns alone
  pub values : All (λ v. IsBuiltOf (IsValueLeaf scene.system) AnySymbol v) scene.values
  pub labels : All (λ t. IsTreeUpTo AnyRigidName scene.system.m scene.system.know scene.system.levels scene.system.m t) scene.system.labels
  pub recorded :
      All
      (λ t. IsComposed t × IsTreeUpTo AnyRigidName scene.system.m scene.system.know scene.system.levels scene.system.m t)
      (compositions scene.system.know)
  pub trees :
      All
      (λ (d : Disequation). All (λ (p : Tree × Tree). IsTreeUpTo AnyRigidName scene.system.m scene.system.know scene.system.levels scene.system.m p.0) d.pairs)
      scene.system.disequations
  pub patterns :
      All
      (λ (d : Disequation). All (λ (p : Tree × Tree). IsBuiltOf (IsPatternLeaf scene.system d.free) AnySymbol p.1) d.pairs)
      scene.system.disequations
  -- free variables are none of the scene's
  pub free : (d : Disequation) → Contains scene.system.disequations d → (x : ℕ) → Contains d.free x → level_of scene.system.levels x ≡ None
  -- each entry has a value, and no level is above m
  pub each_value : length scene.values ≡ length scene.system.know.entries
  pub once : AllPairs (λ (p q : ℕ × ℕ). p.0 ≢ q.0) scene.system.levels
  pub variables : All (λ (p : ℕ × ℕ). p.1 ≤ scene.system.m) scene.system.levels
  pub entries : All (λ (e : Entry). e.level ≤ scene.system.m) scene.system.know.entries
  -- the numbers of variables leave room for new ones
  pub numbers : All (λ x. x < 2 ^ 63) (system_numbers scene.system)

-- a variable of the scene, or one of a rule: no target's name and no free variable of a disequation
abbrev pub IsAskLeaf : Scene → Ask → Leaf → Type 0
IsAskLeaf scene ask (public n) = ⊤
IsAskLeaf scene ask (private n) = ⊤
IsAskLeaf scene ask (rigid k) = ⊤
IsAskLeaf scene ask (var x) =
    IsSome (level_of scene.system.levels x)
    ⊎ (All (λ (z : Target). x ≢ z.name) ask.targets × All (λ (d : Disequation). ¬ Contains d.free x) scene.system.disequations)
IsAskLeaf scene ask (ax j) = ⊥
IsAskLeaf scene ask (entry i) = ⊥

-- An ask that fits the scene: its targets have the level m and distinct names, above all numbers of variables of the
-- scene, and its terms hold variables of the scene and of rules alone.
pub record Fits (scene : Scene) (ask : Ask) : Type 0 where
  pub distinct : AllPairs (λ (z y : Target). z.name ≢ y.name) ask.targets
  pub above : (z : Target) → Contains ask.targets z → All (λ x. x < z.name) (system_numbers scene.system)
  pub levels : All (λ (z : Target). z.level ≡ scene.system.m) ask.targets
  pub terms : All (λ (z : Target). IsBuiltOf (IsAskLeaf scene ask) AnySymbol z.term) ask.targets
  pub equations :
      All (λ (p : Tree × Tree). IsBuiltOf (IsAskLeaf scene ask) AnySymbol p.0 × IsBuiltOf (IsAskLeaf scene ask) AnySymbol p.1) ask.equations
  pub numbers : All (λ (z : Target). z.name < 2 ^ 63) ask.targets

-- A sharp scene: under each solution all trees are told by their values, also those with rigid names.
pub record IsSharp (names : ℕ → Type 0) (scene : Scene) : Type 0 where
  pub valid : IsValid names scene
  pub sharp :
      (s : ℕ → Tree) (g : List Tree) → IsSolution names scene.system s → IsValuation scene s g
      → AreUnique AnyRigidName scene.system s g scene.system.m
