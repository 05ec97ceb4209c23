-- Ways to build a tree from a list of kept ones: with symbols, public names, and the kept trees by their entries. An open
-- way may hold rigid names besides, which stand for themselves.
use Rattle.std.specs.Prelude.{◌≡◌, ℕ, ◌<◌, List, ◌∷◌, length, slice_get, Some, ⊤}
use Rattle.dps_terms.specs.declared.PublicName.{PublicName}
use Rattle.dps_terms.specs.Tree.{Leaf, public, private, var, ax, entry, rigid, Tree, leaf, app}
use Rattle.dps_terms.specs.Replace.{put_entries}
use Rattle.dps_terms.specs.Kinds.{AnySymbol, IsClosed, IsKnowledgeTree, NoRigidName}

abbrev pub AnyName : PublicName → Type 0
AnyName a = ⊤

-- a way to build from n kept trees: any symbols over public names and the entries 1 to n
abbrev pub IsWay : ℕ → Tree → Type 0
IsWay n way = IsClosed way × IsKnowledgeTree AnyName NoRigidName AnySymbol n way

-- any rigid name may stand
abbrev pub AnyRigid : ℕ → Type 0
AnyRigid k = ⊤

-- a way to build from n kept trees that may hold rigid names besides
abbrev pub IsOpenWay : ℕ → Tree → Type 0
IsOpenWay n way = IsKnowledgeTree AnyName AnyRigid AnySymbol n way × IsClosed way

-- the way, which may hold rigid names, builds the tree
pub record Builds (kept : List Tree) (tree way : Tree) : Type 0 where
  pub is_way : IsOpenWay (length kept) way
  pub gives : put_entries kept way ≡ tree

-- no way builds the tree
abbrev pub IsNotBuilt : List Tree → Tree → Type 0
IsNotBuilt kept tree = (way : Tree) → ¬ Builds kept tree way

-- the way is more than an entry alone
abbrev pub IsNoEntryLeaf : Leaf → Type 0
IsNoEntryLeaf (entry i) = ⊥
IsNoEntryLeaf (public a) = ⊤
IsNoEntryLeaf (private n) = ⊤
IsNoEntryLeaf (var n) = ⊤
IsNoEntryLeaf (ax j) = ⊤
IsNoEntryLeaf (rigid n) = ⊤

abbrev pub IsNoEntry : Tree → Type 0
IsNoEntry (leaf x) = IsNoEntryLeaf x
IsNoEntry (app f ts) = ⊤

-- the way builds the tree from more than one entry alone
pub record Composes (kept : List Tree) (tree way : Tree) : Type 0 where
  pub builds : Builds kept tree way
  pub root : IsNoEntry way

abbrev pub IsNotComposed : List Tree → Tree → Type 0
IsNotComposed kept tree = (way : Tree) → ¬ Composes kept tree way

-- the tree is kept at the place, counted from 0, and at none before it
pub record IsFirst (kept : List Tree) (tree : Tree) (place : ℕ) : Type 0 where
  pub here : slice_get kept place ≡ Some tree
  pub none_before : (j : ℕ) → j < place → ¬ (slice_get kept j ≡ Some tree)

-- the tree is not kept
abbrev pub IsNotKept : List Tree → Tree → Type 0
IsNotKept kept tree = (j : ℕ) → ¬ (slice_get kept j ≡ Some tree)

-- a way that builds the tree was put in front
pub record PutsWay (kept : List Tree) (tree : Tree) (old new : List Tree) : Type 0 where
  pub way : Tree
  pub builds : Builds kept tree way
  pub put : new ≡ way ∷ old

-- a way that builds the tree from more than one entry alone was put in front
pub record PutsComposed (kept : List Tree) (tree : Tree) (old new : List Tree) : Type 0 where
  pub way : Tree
  pub composes : Composes kept tree way
  pub put : new ≡ way ∷ old
