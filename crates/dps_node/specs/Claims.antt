-- What the tree says of the processes, each stated as one fact of a problem and a budget.
use Rattle.std.specs.Prelude.{◌≡◌, ◌≢◌, ◌≤◌, ◌⊎◌, ℕ, Bool, false, List, [], ◌∷◌, take, length, Contains}
use Rattle.std.specs.List.{AllZip, range_with_len}
use Rattle.dps_branch.specs.declared.Side.{Side}
use Rattle.dps_terms.specs.Tree.{Tree}
use Rattle.dps_terms.specs.Kinds.{NoRigidName}
use Rattle.dps_theory.specs.Theory.{Theory}
use Rattle.dps_theory.specs.Frames.{HaveOneValue}
use Rattle.dps_process.specs.Models.{Eavesdrop}
use Rattle.dps_process.specs.Problem.{Problem, IsLawful, HasHighBinders}
use Rattle.dps_process.specs.Steps.{Config, Label, inputs, outputs, overhears}
use Rattle.dps_process.specs.Traces.{IsTraceOf, IsEquivalent, IsAttack}
use Rattle.dps_solver.specs.Solutions.{identity, Respects}
use Rattle.dps_directions.specs.Valid.{IsSharp}
use Rattle.dps_node.specs.Node.{SymbolicConfig, Node, scene_of, system_of, at_count}
use Rattle.dps_node.specs.Splits.{IsSplit, partition}
use Rattle.dps_node.specs.Meaning.{IsSolutionOf, IsInstance, IsClosedInMeaning, word, TracesAreOfInstances, SplitsSolutions, SeparatesInstances}
use Rattle.dps_node.specs.Words.{fresh_names, ground_word}
use Rattle.dps_node.specs.Outcome.{changed, kids, passes, InTurn}
use Rattle.dps_node.specs.Settling.{IsSettled}
use Rattle.dps_node.specs.Knowing.{Composes}
use Rattle.dps_node.specs.Expansion.{Acts, IsThrough, Stop, attack, Looks, stop, IsAt, StopsAt, IsFirstStop}
use Rattle.dps_node.specs.Invariant.{IsSound, IsWellFormed}

-- a node of the tree at any moment of its expansion
pub data IsReached (problem : Problem) (budget : ℕ) : List ℕ → Node → Type 0 where
  arrives : {path : List ℕ} {node : Node} → IsAt problem budget path node → IsReached problem budget path node
  changes :
      {path : List ℕ} {node other : Node}
      → IsReached problem budget path node → Acts problem node (changed other)
      → IsReached problem budget path other

-- Each node is well formed, and sound at any moment of its expansion.
abbrev pub NodesAreWellFormed : Problem → ℕ → Type 0
NodesAreWellFormed problem budget =
    ((path : List ℕ) (node : Node) → IsAt problem budget path node → IsWellFormed problem budget node)
    × ((path : List ℕ) (node : Node) → IsReached problem budget path node → IsSound problem node)

-- The traces of the instances of each node are those of the sides with its word, in its class of frames.
abbrev pub NodesKeepTraces : Problem → ℕ → Type 0
NodesKeepTraces problem budget =
    (path : List ℕ) (node : Node) → IsReached problem budget path node → TracesAreOfInstances problem node

-- A split gives each solution to just one kid, and some test tells apart the instances of the kids of a partition.
abbrev pub SplitsKeepSolutions : Problem → ℕ → Type 0
SplitsKeepSolutions problem budget =
    (path : List ℕ) (node first second : Node) (bindings : ℕ → Tree) (n : ℕ)
    → IsReached problem budget path node
    → Acts problem node (kids n (first ∷ second ∷ []))
    → IsSplit (at_count node n) bindings (first ∷ second ∷ [])
    → SplitsSolutions problem node bindings first second

abbrev pub PartitionsSeparate : Problem → ℕ → Type 0
PartitionsSeparate problem budget =
    (path : List ℕ) (node one two : Node) (holds : List Bool) (n : ℕ)
    → IsReached problem budget path node
    → Acts problem node (kids n (one ∷ two ∷ []))
    → one ∷ two ∷ [] ≡ partition (at_count node n) holds
    → SeparatesInstances problem node one two

-- the labels are on one channel and in one direction, and the recipes have one value in the frame
abbrev pub AreAlike : Theory → List Tree → Label → Label → Type 0
AreAlike theory frame (inputs c r) (inputs d s) = (c ≡ d) × HaveOneValue theory frame r s
AreAlike theory frame (outputs c j) (outputs d k) = (c ≡ d) × (j ≡ k)
AreAlike theory frame (overhears c j) (overhears d k) = (c ≡ d) × (j ≡ k)
AreAlike theory frame label other = ⊥

-- the node at the path stops, or only the last rule is left for it and it has as many labels as there are
abbrev pub IsEndFor : Problem → ℕ → List ℕ → List Label → Node → Type 0
IsEndFor problem budget path labels node =
    ((why : Stop) × IsAt problem budget path node × Looks problem budget node (stop why))
    ⊎ (IsThrough problem node × (length node.labels ≡ length labels))

-- The trace falls into the node under a solution: an instance of the side has the first messages, and the node's word is
-- like the first labels.
pub record FallsInto (problem : Problem) (side : Side) (labels : List Label) (frame : List Tree) (node : Node) : Type 0 where
  pub s : ℕ → Tree
  pub solution : IsSolutionOf problem.signature node s
  pub config : Config
  pub instance : IsInstance node s side config
  pub messages : config.frame ≡ take node.m frame
  pub labels_alike : AllZip (AreAlike problem.theory frame) (word node s) (take (length node.labels) labels)

-- Each trace of a side falls into a node at its end.
abbrev pub TracesFallIntoNodes : Problem → ℕ → Type 0
TracesFallIntoNodes problem budget =
    (side : Side) (labels : List Label) (frame : List Tree)
    → IsTraceOf problem side labels frame
    → (path : List ℕ) × (node : Node) × IsReached problem budget path node
    × IsEndFor problem budget path labels node × FallsInto problem side labels frame node

-- Each node for which only the last rule is left is closed in meaning.
abbrev pub ThroughIsClosed : Problem → ℕ → Type 0
ThroughIsClosed problem budget =
    (path : List ℕ) (node : Node) → IsReached problem budget path node → IsThrough problem node → IsClosedInMeaning problem node

-- Where the last handle is examined and the compositions are gone through without a change, each scene is sharp.
abbrev pub ComposedIsSharp : Problem → ℕ → Type 0
ComposedIsSharp problem budget =
    (path : List ℕ) (node : Node) (k : ℕ) (c : SymbolicConfig)
    → IsReached problem budget path node → IsSettled problem.theory node → node.examine ≡ false
    → InTurn (Composes node) (range_with_len 1 (length node.know.entries)) node.count (passes k)
    → Contains node.configs c
    → IsSharp NoRigidName (scene_of node c)

-- Each node is consistent, and distinct fresh names are a solution, with the node's ground word as its word.
pub record HasFreshSolution (problem : Problem) (node : Node) : Type 0 where
  pub consistent : Respects (system_of node) identity
  pub solution : IsSolutionOf problem.signature node (fresh_names node)
  pub word : word node (fresh_names node) ≡ ground_word node

abbrev pub NodesAreConsistent : Problem → ℕ → Type 0
NodesAreConsistent problem budget =
    (path : List ℕ) (node : Node) → IsReached problem budget path node → HasFreshSolution problem node

-- A stop for an attack is one, with the node's ground word; and where there is no stop the sides are equivalent.
abbrev pub AttacksAreAttacks : Problem → ℕ → Type 0
AttacksAreAttacks problem budget =
    (path : List ℕ) (node : Node) (side : Side)
    → IsAt problem budget path node → Looks problem budget node (stop (attack side))
    → IsAttack problem side (ground_word node)

abbrev pub NoStopIsEquivalent : Problem → ℕ → Type 0
NoStopIsEquivalent problem budget =
    ((path : List ℕ) (why : Stop) → ¬ StopsAt problem budget path why) → IsEquivalent problem

-- The tree has a first stop, or none at all.
abbrev pub HasFirstStopOrNone : Problem → ℕ → Type 0
HasFirstStopOrNone problem budget =
    ((path : List ℕ) × (why : Stop) × IsFirstStop problem budget path why)
    ⊎ ((path : List ℕ) (why : Stop) → ¬ StopsAt problem budget path why)

-- What is claimed of the trees of all problems that a file may mean, in the models where nothing is overheard.
abbrev pub HoldsOfTrees : (Problem → ℕ → Type 0) → Type 0
HoldsOfTrees Claim =
    (problem : Problem) (budget : ℕ)
    → IsLawful problem → HasHighBinders problem → problem.model ≢ Eavesdrop → budget ≤ 1000000000
    → Claim problem budget
