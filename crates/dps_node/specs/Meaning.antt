-- What a node stands for: ground words and configurations, one for each solution.
use Rattle.std.specs.Prelude.{◌≡◌, ◌↔◌, ◌⊎◌, ℕ, List, ◌++◌, Some, map, take, Contains}
use Rattle.dps_branch.specs.declared.Side.{Side}
use Rattle.dps_signature.specs.declared.SymKind.TheVariants.{Constructor}
use Rattle.dps_terms.specs.Tree.{Tree}
use Rattle.dps_terms.specs.Replace.{substitute, put_entries}
use Rattle.dps_signature.specs.Signature.{Signature, HasShape, shapes}
use Rattle.dps_terms.specs.Kinds.{IsBuiltOf, NoRigidName}
use Rattle.dps_signature.specs.Kinds.{IsLeafOver, IsRecipe}
use Rattle.dps_theory.specs.Frames.{HasValue, Succeeds, AreStaticallyEquivalent, AreToldApart}
use Rattle.dps_process.specs.Problem.{Problem}
use Rattle.dps_process.specs.Steps.{Config, Label}
use Rattle.dps_process.specs.Traces.{Ends, IsTraceOf}
use Rattle.dps_unify.specs.Order.{level_of}
use Rattle.dps_know.specs.Know.{Knowledge, know_under, compositions, recipe_of, IsNormal}
use Rattle.dps_solver.specs.Levels.{IsGroundUpTo}
use Rattle.dps_solver.specs.Solutions.{IsSolution}
use Rattle.dps_directions.specs.Valid.{AreUnique}
use Rattle.dps_node.specs.Node.{SymbolicConfig, Node, label_under, variables_of, system_of}
use Rattle.dps_node.specs.Splits.{binding, IsConfigUnder}

-- what the attacker builds without computing: a tree of constructors of the signature
abbrev pub IsTreeOver : Signature → Tree → Type 0
IsTreeOver signature t = IsBuiltOf (IsLeafOver signature) (HasShape (shapes signature) Constructor) t

-- A solution of a node: of its constraint system, by trees over the signature without rigid names.
pub record IsSolutionOf (signature : Signature) (node : Node) (s : ℕ → Tree) : Type 0 where
  pub solution : IsSolution NoRigidName (system_of node) s
  pub over : (x l : ℕ) → level_of (variables_of node) x ≡ Some l → IsTreeOver signature (s x)

-- the recipe that a tree of the node becomes under the solution
abbrev pub recipe_under : Knowledge → (ℕ → Tree) → Tree → Tree
recipe_under know s t = recipe_of (know_under s know) (substitute s t)

-- the word of a node under the solution: its labels, with recipes in the place of trees
abbrev pub word : Node → (ℕ → Tree) → List Label
word node s = map (label_under (recipe_under node.know s)) node.labels

-- An instance of the node under the solution: what one of its configurations of the side becomes.
pub record IsInstance (node : Node) (s : ℕ → Tree) (side : Side) (c : Config) : Type 0 where
  pub config : SymbolicConfig
  pub listed : Contains node.configs config
  pub of_side : config.side ≡ side
  pub ground : SymbolicConfig
  pub under : IsConfigUnder node s config ground
  pub parts : c.parts ≡ ground.parts
  pub frame : c.frame ≡ ground.frame

-- The recipe has one normal tree under the solution: its value in each instance is that of the tree.
pub record HasNormalTree (problem : Problem) (node : Node) (s : ℕ → Tree) (r : Tree) : Type 0 where
  pub tree : Tree
  pub over : IsTreeOver problem.signature tree
  pub ground : IsGroundUpTo NoRigidName node.m node.know node.m tree
  pub normal : IsNormal (map (substitute s) (compositions node.know)) tree
  pub value :
      (k l : SymbolicConfig) → Contains node.configs k → IsConfigUnder node s k l
      → HasValue problem.theory l.frame r (put_entries l.values tree)

-- Closed in meaning: under each solution the attacker computes the same in all instances. Any two have statically equivalent
-- frames; normal trees are told by their values; and each recipe that has a value in one has in all of them that of one
-- normal tree.
pub record IsClosedInMeaning (problem : Problem) (node : Node) : Type 0 where
  pub equivalent :
      (s : ℕ → Tree) (one two : Side) (c d : Config) → IsSolutionOf problem.signature node s
      → IsInstance node s one c → IsInstance node s two d
      → AreStaticallyEquivalent problem.signature problem.theory c.frame d.frame
  pub unique :
      (s : ℕ → Tree) (k l : SymbolicConfig) → IsSolutionOf problem.signature node s
      → Contains node.configs k → IsConfigUnder node s k l → AreUnique NoRigidName (system_of node) s l.values node.m
  pub computed :
      (s : ℕ → Tree) (side : Side) (c : Config) (r : Tree) → IsSolutionOf problem.signature node s
      → IsInstance node s side c → IsRecipe problem.signature node.m r → Succeeds problem.theory c.frame r
      → HasNormalTree problem node s r

-- some run from an instance of the side has these labels and ends with this frame
pub record InstanceEnds (problem : Problem) (node : Node) (s : ℕ → Tree) (side : Side) (rest : List Label) (frame : List Tree) : Type 0 where
  pub config : Config
  pub instance : IsInstance node s side config
  pub ends : Ends problem.model problem.signature problem.theory config rest frame

-- The side has a trace that goes on with these labels from the node's word, and its first messages are statically equivalent
-- to those of an instance of either side.
pub record TraceGoesOn (problem : Problem) (node : Node) (s : ℕ → Tree) (side : Side) (rest : List Label) (frame : List Tree) : Type 0 where
  pub trace : IsTraceOf problem side (word node s ++ rest) frame
  pub other : Side
  pub config : Config
  pub instance : IsInstance node s other config
  pub equivalent : AreStaticallyEquivalent problem.signature problem.theory (take node.m frame) config.frame

-- The traces of a node's instances are the traces of the sides with its word, in its class of frames.
abbrev pub TracesAreOfInstances : Problem → Node → Type 0
TracesAreOfInstances problem node =
    (s : ℕ → Tree) (side : Side) (rest : List Label) (frame : List Tree)
    → IsSolutionOf problem.signature node s
    → TraceGoesOn problem node s side rest frame ↔ InstanceEnds problem node s side rest frame

-- the kid under one solution is the node under another: the same word and the same instances
pub record AgreesWith (node : Node) (s : ℕ → Tree) (kid : Node) (t : ℕ → Tree) : Type 0 where
  pub word : word kid t ≡ word node s
  pub instances : (side : Side) (c : Config) → IsInstance kid t side c ↔ IsInstance node s side c

-- a solution t of the kid with the bindings, of which s is what the bindings become
pub record IsOfFirstKid (signature : Signature) (node : Node) (bindings : ℕ → Tree) (kid : Node) (s t : ℕ → Tree) : Type 0 where
  pub solves : IsSolutionOf signature kid t
  pub gives : (x l : ℕ) → level_of (variables_of node) x ≡ Some l → s x ≡ substitute t (binding node bindings x)

-- A split into these kids gives each solution of the node to just one of them, in just one way, with the same word and
-- instances.
pub record SplitsSolutions (problem : Problem) (node : Node) (bindings : ℕ → Tree) (first second : Node) : Type 0 where
  pub of_one :
      (s : ℕ → Tree) → IsSolutionOf problem.signature node s
      → ((t : ℕ → Tree) × IsOfFirstKid problem.signature node bindings first s t × AgreesWith node s first t)
      ⊎ (IsSolutionOf problem.signature second s × AgreesWith node s second s)
  pub not_both :
      (s t : ℕ → Tree) → IsOfFirstKid problem.signature node bindings first s t → ¬ IsSolutionOf problem.signature second s
  pub once :
      (s t u : ℕ → Tree) → IsOfFirstKid problem.signature node bindings first s t → IsOfFirstKid problem.signature node bindings first s u
      → t ≡ u

-- The two kids of a partition have the node's solutions and, between them, its instances; and some test tells apart any
-- instance of one from any of the other.
pub record SeparatesInstances (problem : Problem) (node one two : Node) : Type 0 where
  pub solutions :
      (s : ℕ → Tree)
      → (IsSolutionOf problem.signature node s ↔ IsSolutionOf problem.signature one s)
      × (IsSolutionOf problem.signature node s ↔ IsSolutionOf problem.signature two s)
  pub words : (s : ℕ → Tree) → (word one s ≡ word node s) × (word two s ≡ word node s)
  pub instances :
      (s : ℕ → Tree) (side : Side) (c : Config) → IsInstance node s side c ↔ (IsInstance one s side c ⊎ IsInstance two s side c)
  pub apart :
      (s : ℕ → Tree) (first second : Side) (c d : Config) → IsSolutionOf problem.signature node s
      → IsInstance one s first c → IsInstance two s second d
      → AreToldApart problem.signature problem.theory c.frame d.frame
