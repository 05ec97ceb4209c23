-- What each node of the tree keeps. It is what makes its scenes valid, and sharp where all compositions are recorded.
use Rattle.std.specs.Prelude.{◌≡◌, ◌≢◌, ◌⊎◌, ◌≤◌, ◌<◌, ◌-◌, ◌+◌, ◌*◌, ◌^◌, ℕ, suc, true, false, if◌then◌else◌, List, [], ◌∷◌, ◌++◌, Some, None, All, Any, Contains, IsSome, length, slice_get, ⊤}
use Rattle.dps_terms.specs.declared.PublicName.TheVariants.{At}
use Rattle.dps_signature.specs.declared.SymKind.TheVariants.{Constructor}
use Rattle.dps_terms.specs.Tree.{Leaf, public, private, var, ax, entry, rigid, Tree, leaf, app, StandsIn, IsSubterm, IsStrictSubterm}
use Rattle.dps_terms.specs.Replace.{substitute, put_entries}
use Rattle.dps_signature.specs.Signature.{Signature, HasShape, HasArity, shapes}
use Rattle.dps_terms.specs.Kinds.{IsBuiltOf, AnySymbol, IsClosed, IsKnowledgeTree, NoRigidName}
use Rattle.dps_signature.specs.Kinds.{IsSourceName, IsSourceTerm, IsRecipe}
use Rattle.dps_theory.specs.Frames.{HasValue}
use Rattle.dps_process.specs.Process.{Process, IsFree, EachTerm, EachChannel, EachBinder, part_nodes}
use Rattle.dps_process.specs.Problem.{Problem, destructors}
use Rattle.dps_process.specs.Steps.{Label, inputs, outputs, overhears}
use Rattle.dps_unify.specs.Order.{level_of}
use Rattle.dps_know.specs.Know.{entry_at, compositions}
use Rattle.dps_know.specs.declared.know.Entry.{Entry}
use Rattle.dps_solver.specs.Levels.{IsLeafUpTo, IsTreeUpTo, IsGroundUpTo, AnyRigidName}
use Rattle.dps_solver.specs.Scene.{Disequation, value_at}
use Rattle.dps_solver.specs.Solutions.{identity, Respects, IsSolution}
use Rattle.dps_directions.specs.Valid.{AreUnique, IsComposed}
use Rattle.dps_node.specs.Node.{SymbolicConfig, Node, label_trees, variables_of, system_of, scene_of}
use Rattle.dps_node.specs.Splits.{IsConfigUnder}
use Rattle.dps_node.specs.Meaning.{IsTreeOver, IsSolutionOf, recipe_under, IsClosedInMeaning}

-- the level up to which all is known: that of the frame, or of the frame before where the last message is still in work
abbrev pub known_level : Node → ℕ
known_level node = if node.closed then node.m else node.m - 1

-- how many messages come with the labels
abbrev pub messages_in : List Label → ℕ
messages_in [] = 0
messages_in (inputs c t ∷ labels) = messages_in labels
messages_in (outputs c j ∷ labels) = 1 + messages_in labels
messages_in (overhears c j ∷ labels) = 1 + messages_in labels

-- a message comes with the label
abbrev pub BringsMessage : Label → Type 0
BringsMessage (inputs c t) = ⊥
BringsMessage (outputs c j) = ⊤
BringsMessage (overhears c j) = ⊤

-- the variable stands in a label tree
abbrev pub IsOfNode : Node → ℕ → Type 0
IsOfNode node x = IsSome (level_of (variables_of node) x)

-- none of the attacker's own names stands in it: so they are fresh names for the variables
abbrev pub IsNoOwnName : Leaf → Type 0
IsNoOwnName (public (At k)) = ⊥
IsNoOwnName x = ⊤

abbrev pub HasNoOwnName : Tree → Type 0
HasNoOwnName t = IsBuiltOf IsNoOwnName AnySymbol t

-- A tree of a node: constructors of the signature over declared names, and over variables and entries of at most the level.
pub record IsNodeTree (signature : Signature) (node : Node) (l : ℕ) (t : Tree) : Type 0 where
  pub over : IsTreeOver signature t
  pub declared_names : HasNoOwnName t
  pub level : IsTreeUpTo NoRigidName node.m node.know (variables_of node) l t

-- Levels: they rise with the numbers of entries, and a label's tree was built before its label.
pub record HasLevels (signature : Signature) (node : Node) : Type 0 where
  pub length : node.m ≡ messages_in node.labels
  pub rising :
      (i j : ℕ) (e f : Entry) → entry_at node.know i ≡ Some e → entry_at node.know j ≡ Some f → i ≤ j → e.level ≤ f.level
  pub entries : All (λ (e : Entry). e.level ≤ node.m) node.know.entries
  pub variables : All (λ (p : ℕ × ℕ). p.1 ≤ known_level node) (variables_of node)
  pub labels :
      (before after : List Label) (c : ℕ) (t : Tree) → node.labels ≡ before ++ (inputs c t ∷ after)
      → IsNodeTree signature node (messages_in before) t
  pub in_work : node.closed ≡ false → (before : List Label) × (last : Label) × (node.labels ≡ before ++ last ∷ []) × BringsMessage last

-- a declared name, public or private, or a variable of the node
abbrev pub IsMessageLeaf : Signature → Node → Leaf → Type 0
IsMessageLeaf signature node (public n) = IsSourceName signature n
IsMessageLeaf signature node (private n) = ⊤
IsMessageLeaf signature node (var x) = IsOfNode node x
IsMessageLeaf signature node (ax j) = ⊥
IsMessageLeaf signature node (entry i) = ⊥
IsMessageLeaf signature node (rigid k) = ⊥

-- a message of a node: constructors over these
abbrev pub IsNodeMessage : Signature → Node → Tree → Type 0
IsNodeMessage signature node t = IsBuiltOf (IsMessageLeaf signature node) (HasShape (shapes signature) Constructor) t

-- A part of a node: as a file may write it, with high binders, and no variable is free but the node's.
pub record IsNodePart (signature : Signature) (node : Node) (p : Process) : Type 0 where
  pub terms : EachTerm (IsSourceTerm signature) p
  pub channels : EachChannel (λ c. c < length signature.names) p
  pub binders : EachBinder (λ x. 2 ^ 63 ≤ x) p
  pub free : (x : ℕ) → IsFree x p → IsOfNode node x

-- what stands in the recipe of the i-th entry, of level l; the attacker's name `@0` stands for what he need not choose
abbrev pub IsEntryRecipeLeaf : Signature → Node → ℕ → ℕ → Leaf → Type 0
IsEntryRecipeLeaf signature node i l (public n) = IsSourceName signature n ⊎ (n ≡ At 0)
IsEntryRecipeLeaf signature node i l (var x) = (k : ℕ) × (level_of (variables_of node) x ≡ Some k) × (k < l)
IsEntryRecipeLeaf signature node i l (ax j) = (1 ≤ j) × (j ≤ l)
IsEntryRecipeLeaf signature node i l (entry j) = (1 ≤ j) × (j < i)
IsEntryRecipeLeaf signature node i l (private n) = ⊥
IsEntryRecipeLeaf signature node i l (rigid k) = ⊥

-- a constructor or a private name stands at the root of an entry's value
abbrev pub IsEntryValue : Tree → Type 0
IsEntryValue (leaf (private n)) = ⊤
IsEntryValue (leaf x) = ⊥
IsEntryValue (app f ts) = ⊤

-- what stands in the pattern of a disequation with these free variables
abbrev pub IsPatternLeafOf : Node → List ℕ → Leaf → Type 0
IsPatternLeafOf node free x =
    IsLeafUpTo NoRigidName node.m node.know (variables_of node) node.m x ⊎ ((n : ℕ) × (x ≡ var n) × Contains free n)

-- A disequation of a node: its free variables had numbers given and are none of the node's, and stand in patterns alone.
pub record IsNodeDisequation (signature : Signature) (node : Node) (d : Disequation) : Type 0 where
  pub trees : All (λ (p : Tree × Tree). IsNodeTree signature node node.m p.0) d.pairs
  pub patterns : All (λ (p : Tree × Tree). IsTreeOver signature p.1 × HasNoOwnName p.1 × IsBuiltOf (IsPatternLeafOf node d.free) AnySymbol p.1) d.pairs
  pub free : All (λ x. (x ≤ length node.levels) × (level_of (variables_of node) x ≡ None)) d.free

-- Each thing holds only what is the node's, and an entry only what is older.
pub record HasOlderParts (signature : Signature) (node : Node) : Type 0 where
  pub recipes :
      (i : ℕ) (e : Entry) → entry_at node.know i ≡ Some e
      → IsBuiltOf (IsEntryRecipeLeaf signature node i e.level) (HasArity (shapes signature)) e.recipe
  pub values :
      (c : SymbolicConfig) (i : ℕ) (e : Entry) (v : Tree) → Contains node.configs c → entry_at node.know i ≡ Some e
      → value_at (scene_of node c) i ≡ Some v
      → IsEntryValue v × ((x : ℕ) → StandsIn (var x) v → (l : ℕ) × (level_of (variables_of node) x ≡ Some l) × (l < e.level))
  pub each_value : All (λ (c : SymbolicConfig). length c.values ≡ length node.know.entries) node.configs
  pub each_message : All (λ (c : SymbolicConfig). length c.frame ≡ node.m) node.configs
  pub messages :
      All (λ (c : SymbolicConfig). All (IsNodeMessage signature node) c.values × All (IsNodeMessage signature node) c.frame) node.configs
  pub parts : All (λ (c : SymbolicConfig). All (IsNodePart signature node) c.parts) node.configs
  pub recorded : All (λ t. IsComposed t × IsNodeTree signature node node.m t) (compositions node.know)
  pub handles : All (IsNodeTree signature node node.m) node.know.handles
  pub examined : length node.know.handles + (if node.examine then 1 else 0) ≡ node.m
  pub disequations : All (IsNodeDisequation signature node) node.disequations

-- What holds of a configuration l that one of the node becomes under the solution s. It speaks of ground trees and values
-- alone, and so passes to kids.
pub record HasFacts (node : Node) (s : ℕ → Tree) (l : SymbolicConfig) : Type 0 where
  -- no tree over older entries has the value of an entry
  pub new :
      (j : ℕ) (v t : Tree) → slice_get l.values j ≡ Some v
      → IsClosed t → IsKnowledgeTree (λ a. ⊤) AnyRigidName AnySymbol j t
      → put_entries l.values t ≢ v
  -- a recorded composition has the entry's value
  pub recorded :
      (j : ℕ) (e : Entry) (v c : Tree) → slice_get node.know.entries j ≡ Some e → e.composition ≡ Some c → slice_get l.values j ≡ Some v
      → put_entries l.values (substitute s c) ≡ v
  -- a composed subtree of an argument of one stands in a label, or has no entry's value
  pub arguments :
      (c u : Tree) → Contains (compositions node.know) c → IsStrictSubterm u (substitute s c) → IsComposed u
      → Any (λ t. IsSubterm u (substitute s t)) (label_trees node)
      ⊎ ((j : ℕ) (v : Tree) → slice_get l.values j ≡ Some v → put_entries l.values u ≢ v)
  -- trees of a known level are told by their values
  pub unique : AreUnique NoRigidName (system_of node) s l.values (known_level node)
  -- the value of an old entry without a composition is that of no composed tree of a known level
  pub simple :
      (j : ℕ) (e : Entry) (v t : Tree) → slice_get node.know.entries j ≡ Some e → e.composition ≡ None → e.level ≤ known_level node
      → slice_get l.values j ≡ Some v → IsComposed t → IsGroundUpTo NoRigidName node.m node.know (known_level node) t
      → put_entries l.values t ≢ v
  -- the tree of a handle has its message as value
  pub handles :
      (j : ℕ) (t message : Tree) → slice_get node.know.handles j ≡ Some t → slice_get l.frame j ≡ Some message
      → put_entries l.values (substitute s t) ≡ message

-- The recipe of each entry under the solution is one over the messages of its level, and has its value.
abbrev pub HasRecipes : Problem → Node → (ℕ → Tree) → SymbolicConfig → Type 0
HasRecipes problem node s l =
    (j : ℕ) (e : Entry) (v : Tree) → slice_get node.know.entries j ≡ Some e → slice_get l.values j ≡ Some v
    → IsRecipe problem.signature e.level (recipe_under node.know s (leaf (entry (suc j))))
    × HasValue problem.theory l.frame (recipe_under node.know s (leaf (entry (suc j)))) v

-- The invariant of the tree's nodes. The facts hold under solutions with any symbols, as scenes are valid only so.
pub record IsSound (problem : Problem) (node : Node) : Type 0 where
  pub levels : HasLevels problem.signature node
  pub older : HasOlderParts problem.signature node
  pub consistent : Respects (system_of node) identity
  pub unmixed : node.closed ≡ false → All (λ (c : SymbolicConfig). c.mixed ≡ false) node.configs
  pub facts :
      (s : ℕ → Tree) (k l : SymbolicConfig) → IsSolution NoRigidName (system_of node) s
      → Contains node.configs k → IsConfigUnder node s k l → HasFacts node s l
  pub recipes :
      (s : ℕ → Tree) (k l : SymbolicConfig) → IsSolutionOf problem.signature node s
      → Contains node.configs k → IsConfigUnder node s k l → HasRecipes problem node s l
  pub closed : node.closed ≡ true → IsClosedInMeaning problem node
  -- a node is closed only once its last handle is examined
  pub done : node.closed ≡ true → node.examine ≡ false

-- The sizes of a node, so that no number of a variable, a handle or a step passes its bound.
pub record IsSmall (problem : Problem) (budget : ℕ) (node : Node) : Type 0 where
  pub allowed : budget ≤ 1000000000
  pub count : node.count ≤ budget
  pub levels : length node.levels ≤ 2 ^ 34 * length node.labels + 8 * node.count
  pub parts : All (λ (c : SymbolicConfig). part_nodes c.parts + length node.labels ≤ 2 ^ 20) node.configs
  pub few_destructors :
      All (λ (c : SymbolicConfig). All (EachTerm (λ u. destructors (shapes problem.signature) u ≤ 65536)) c.parts) node.configs

-- A well formed node of a problem: sound, small, and with a configuration.
pub record IsWellFormed (problem : Problem) (budget : ℕ) (node : Node) : Type 0 where
  pub sound : IsSound problem node
  pub small : IsSmall problem budget node
  pub some : node.configs ≢ []
