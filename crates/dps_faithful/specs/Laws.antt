-- The laws, each over all problems and nodes.
use Rattle.std.specs.Prelude.{◌≡◌, ◌↔◌, ◌<◌, ℕ, suc, ◌^◌, Bool, true, false, List, [], ◌∷◌, Some, None, length, slice_get, Contains}
use Rattle.dps_branch.specs.declared.Side.{Side}
use Rattle.dps_terms.specs.Tree.{rigid, Tree, StandsIn}
use Rattle.dps_terms.specs.Replace.{substitute, put_entries}
use Rattle.dps_terms.specs.Kinds.{NoRigidName}
use Rattle.dps_signature.specs.Signature.{Signature}
use Rattle.dps_theory.specs.Frames.{AreToldApart}
use Rattle.dps_process.specs.Problem.{Problem}
use Rattle.dps_process.specs.Steps.{Config}
use Rattle.dps_unify.specs.Order.{level_of}
use Rattle.dps_know.specs.declared.know.Entry.{Entry}
use Rattle.dps_solver.specs.Scene.{Ask}
use Rattle.dps_solver.specs.Solutions.{IsSolution}
use Rattle.dps_solver.specs.Search.{GeneralSolution, IsPlain}
use Rattle.dps_directions.specs.Valid.{IsValid, IsComposed}
use Rattle.dps_directions.specs.Shapes.{IsListedFor}
use Rattle.dps_node.specs.Node.{SymbolicConfig, Node, variables_of, system_of, scene_of}
use Rattle.dps_node.specs.Splits.{binding, IsConfigUnder, IsSplit, partition}
use Rattle.dps_node.specs.Knowing.{with_entry, with_handle, with_composition}
use Rattle.dps_node.specs.Meaning.{IsTreeOver, IsSolutionOf, IsInstance, IsClosedInMeaning, AgreesWith, SplitsSolutions, SeparatesInstances}
use Rattle.dps_node.specs.Invariant.{HasNoOwnName, IsNodeTree, HasFacts, HasRecipes, IsSound}

-- the numbers that variables were given are none of those that processes bind
abbrev pub HasLowNumbers : Node → Type 0
HasLowNumbers node = length node.levels < 2 ^ 63

-- The scenes of a node that keeps the invariant are valid.
abbrev pub ScenesAreValid : Type 0
ScenesAreValid =
    (problem : Problem) (node : Node) (c : SymbolicConfig)
    → IsSound problem node → HasLowNumbers node → Contains node.configs c → IsValid NoRigidName (scene_of node c)

-- a solution that the search lists for an ask in one of the node's scenes
pub record IsListedIn (node : Node) (solution : GeneralSolution) : Type 0 where
  pub config : SymbolicConfig
  pub of_node : Contains node.configs config
  pub ask : Ask
  pub found : IsListedFor NoRigidName (scene_of node config) ask solution

-- A split on a listed solution gives each solution of the node to just one of the kids, with the same word and instances.
abbrev pub SplitsGiveToOne : Type 0
SplitsGiveToOne =
    (problem : Problem) (node first second : Node) (solution : GeneralSolution)
    → IsSound problem node → IsListedIn node solution
    → IsSplit node solution.bindings (first ∷ second ∷ []) → HasLowNumbers first
    → SplitsSolutions problem node solution.bindings first second

-- each binding is a tree over the signature, without rigid names and the attacker's own ones
pub record BindsTrees (signature : Signature) (solution : GeneralSolution) : Type 0 where
  pub over : (x : ℕ) → IsTreeOver signature (solution.bindings x)
  pub rigid : (x k : ℕ) → ¬ StandsIn (rigid k) (solution.bindings x)
  pub own : (x : ℕ) → HasNoOwnName (solution.bindings x)

-- the solution t of the kid with the bindings is a solution of the node, with the same word and instances
pub record ComesFromNode (problem : Problem) (node : Node) (bindings : ℕ → Tree) (kid : Node) (t : ℕ → Tree) : Type 0 where
  pub s : ℕ → Tree
  pub solves : IsSolutionOf problem.signature node s
  pub gives : (x l : ℕ) → level_of (variables_of node) x ≡ Some l → s x ≡ substitute t (binding node bindings x)
  pub agrees : AgreesWith node s kid t

-- So each solution of the first kid is one of the node: the kid has no others.
abbrev pub FirstKidsComeFromNodes : Type 0
FirstKidsComeFromNodes =
    (problem : Problem) (node first second : Node) (solution : GeneralSolution) (t : ℕ → Tree)
    → IsSound problem node → IsListedIn node solution → BindsTrees problem.signature solution
    → IsSplit node solution.bindings (first ∷ second ∷ []) → HasLowNumbers first
    → IsSolutionOf problem.signature first t → ComesFromNode problem node solution.bindings first t

-- what the invariant says of what a node's configurations become, under each solution
pub record HasMeaning (problem : Problem) (node : Node) : Type 0 where
  pub facts :
      (s : ℕ → Tree) (k l : SymbolicConfig) → IsSolution NoRigidName (system_of node) s
      → Contains node.configs k → IsConfigUnder node s k l → HasFacts node s l
  pub recipes :
      (s : ℕ → Tree) (k l : SymbolicConfig) → IsSolutionOf problem.signature node s
      → Contains node.configs k → IsConfigUnder node s k l → HasRecipes problem node s l
  pub closed : node.closed ≡ true → IsClosedInMeaning problem node

-- This part of the invariant passes to the first kid.
abbrev pub FirstKidsInheritMeaning : Type 0
FirstKidsInheritMeaning =
    (problem : Problem) (node first second : Node) (solution : GeneralSolution)
    → IsSound problem node → IsListedIn node solution → BindsTrees problem.signature solution
    → IsSplit node solution.bindings (first ∷ second ∷ []) → HasLowNumbers first
    → HasMeaning problem first

-- The first kid of a split keeps the invariant.
abbrev pub FirstKidsKeepInvariant : Type 0
FirstKidsKeepInvariant =
    (problem : Problem) (node first second : Node) (solution : GeneralSolution)
    → IsSound problem node → IsListedIn node solution → BindsTrees problem.signature solution
    → IsSplit node solution.bindings (first ∷ second ∷ []) → HasLowNumbers first
    → IsSound problem first

-- The second kid of a split keeps the invariant.
abbrev pub SecondKidsKeepInvariant : Type 0
SecondKidsKeepInvariant =
    (problem : Problem) (node first second : Node) (solution : GeneralSolution)
    → IsSound problem node → IsListedIn node solution → BindsTrees problem.signature solution → ¬ IsPlain solution
    → IsSplit node solution.bindings (first ∷ second ∷ []) → HasLowNumbers first
    → IsSound problem second

-- The kids of a partition keep the invariant.
abbrev pub PartitionsKeepInvariant : Type 0
PartitionsKeepInvariant =
    (problem : Problem) (node one two : Node) (holds : List Bool)
    → IsSound problem node → one ∷ two ∷ [] ≡ partition node holds → IsSound problem one × IsSound problem two

-- under each solution some test tells each instance of the one node from each of the other
abbrev pub AreApart : Problem → Node → Node → Node → Type 0
AreApart problem node one two =
    (s : ℕ → Tree) (first second : Side) (c d : Config) → IsSolutionOf problem.signature node s
    → IsInstance one s first c → IsInstance two s second d → AreToldApart problem.signature problem.theory c.frame d.frame

-- Between them they have the node's instances, and each has its solutions and its word.
abbrev pub PartitionsPart : Type 0
PartitionsPart =
    (problem : Problem) (node one two : Node) (holds : List Bool)
    → one ∷ two ∷ [] ≡ partition node holds → length holds ≡ length node.configs → AreApart problem node one two
    → SeparatesInstances problem node one two

-- in each configuration, under each solution, the tree has the value of the entry at this place
abbrev pub HasValueOf : Node → ℕ → Tree → Type 0
HasValueOf node e t =
    (s : ℕ → Tree) (k l : SymbolicConfig) → IsSolution NoRigidName (system_of node) s → Contains node.configs k → IsConfigUnder node s k l
    → (v : Tree) → slice_get l.values e ≡ Some v → put_entries l.values (substitute s t) ≡ v

-- A composition that is recorded while a message is in work leaves the solutions as they are: it holds an entry of that
-- message's level, which none of them can hold.
abbrev pub RecordingKeepsSolutions : Type 0
RecordingKeepsSolutions =
    (problem : Problem) (node : Node) (c : SymbolicConfig) (e : ℕ) (at : Entry) (t : Tree) (s : ℕ → Tree)
    → IsSound problem node → HasLowNumbers node → node.closed ≡ false → Contains node.configs c
    → slice_get node.know.entries e ≡ Some at → at.composition ≡ None
    → IsNodeTree problem.signature node node.m t → IsComposed t → HasValueOf node e t
    → IsSolution NoRigidName (system_of node) s ↔ IsSolution NoRigidName (system_of (with_composition node (suc e) t)) s

-- So does a new entry, as it is of that level.
abbrev pub NewEntriesKeepSolutions : Type 0
NewEntriesKeepSolutions =
    (problem : Problem) (node : Node) (recipe : Tree) (values : List Tree) (s : ℕ → Tree)
    → IsSound problem node → node.closed ≡ false
    → IsSolution NoRigidName (system_of node) s ↔ IsSolution NoRigidName (system_of (with_entry node recipe values)) s

-- And so does the tree that is found for a handle.
abbrev pub HandlesKeepSolutions : Type 0
HandlesKeepSolutions =
    (node : Node) (t : Tree) (s : ℕ → Tree)
    → IsSolution NoRigidName (system_of node) s ↔ IsSolution NoRigidName (system_of (with_handle node t)) s
