-- Instances of patterns that are built from kept trees. A variable of the pattern that no kept tree binds is left open: a
-- rigid name with its number stands for it.
use Rattle.std.specs.Prelude.{◌≡◌, ◌⊎◌, ℕ, List, length, slice_get, Some, unwrap_or, Contains, ⊤}
use Rattle.dps_terms.specs.Tree.{Leaf, public, private, var, ax, entry, rigid, Tree, Trees, leaf, none, more, StandsIn}
use Rattle.dps_terms.specs.Replace.{replace, replace_all, substitute, substitute_all, rigid_names_to, put_entries}
use Rattle.dps_terms.specs.Bindings.{bound}
use Rattle.dps_terms.specs.Kinds.{IsBuiltOf, AnySymbol}
use Rattle.dps_unify.specs.Matching.{Agrees}
use Rattle.dps_static.specs.Ways.{IsOpenWay}

-- some way, which may hold rigid names, builds the tree
pub record IsBuilt (kept : List Tree) (t : Tree) : Type 0 where
  pub way : Tree
  pub is_way : IsOpenWay (length kept) way
  pub gives : put_entries kept way ≡ t

abbrev mutual
  pub AreBuilt : List Tree → Trees → Type 0
  AreBuilt kept none = ⊤
  AreBuilt kept (more t ts) = IsBuilt kept t × AreBuilt kept ts

-- no rigid name stands in the tree
abbrev pub IsNoRigidLeaf : Leaf → Type 0
IsNoRigidLeaf (rigid k) = ⊥
IsNoRigidLeaf (public a) = ⊤
IsNoRigidLeaf (private n) = ⊤
IsNoRigidLeaf (var n) = ⊤
IsNoRigidLeaf (ax j) = ⊤
IsNoRigidLeaf (entry i) = ⊤

abbrev pub HasNoRigidName : Tree → Type 0
HasNoRigidName t = IsBuiltOf IsNoRigidLeaf AnySymbol t

abbrev pub HaveNoRigidName : List Tree → Type 0
HaveNoRigidName kept = (k : ℕ) (t : Tree) → slice_get kept k ≡ Some t → HasNoRigidName t

-- what the pairs bind, and a rigid name for each other variable
abbrev pub generic : List (ℕ × Tree) → ℕ → Tree
generic s n = unwrap_or (bound s n) (leaf (rigid n))

-- each rigid name becomes what its variable is
abbrev pub filled : (ℕ → Tree) → Tree → Tree
filled z t = replace (rigid_names_to z) t

abbrev pub all_filled : (ℕ → Tree) → Trees → Trees
all_filled z ts = replace_all (rigid_names_to z) ts

-- all that s binds is bound alike by q
pub record Extends (s q : List (ℕ × Tree)) : Type 0 where
  pub keeps : (n : ℕ) (t : Tree) → bound s n ≡ Some t → bound q n ≡ Some t

-- some term is bound to the variable
abbrev pub IsBoundBy : List (ℕ × Tree) → ℕ → Type 0
IsBoundBy s n = (t : Tree) × (bound s n ≡ Some t)

-- However s is extended in agreement with z, the generic instance of the pattern is built from the kept trees; and each
-- variable of the pattern is bound, or z makes it a tree that is built from them.
pub record IsSettled (kept : List Tree) (z : ℕ → Tree) (s : List (ℕ × Tree)) (p : Tree) : Type 0 where
  pub built : (q : List (ℕ × Tree)) → Extends s q → Agrees z q → IsBuilt kept (substitute (generic q) p)
  pub variables : (n : ℕ) → StandsIn (var n) p → IsBoundBy s n ⊎ IsBuilt kept (z n)

abbrev mutual
  pub AreSettled : List Tree → (ℕ → Tree) → List (ℕ × Tree) → Trees → Type 0
  AreSettled kept z s none = ⊤
  AreSettled kept z s (more p ps) = IsSettled kept z s p × AreSettled kept z s ps

-- one of the listed substitutions extends s, agrees with z and is as wanted
pub record IsFound (z : ℕ → Tree) (s : List (ℕ × Tree)) (found : List (List (ℕ × Tree))) (Wanted : List (ℕ × Tree) → Type 0) : Type 0 where
  pub by : List (ℕ × Tree)
  pub listed : Contains found by
  pub extends : Extends s by
  pub agrees : Agrees z by
  pub wanted : Wanted by

-- Wherever z makes the patterns trees that are built from the kept ones, one of the substitutions that were found settles them.
pub record CoversAll (kept : List Tree) (ps : Trees) (start found : List (List (ℕ × Tree))) : Type 0 where
  pub covers :
      (z : ℕ → Tree) (s : List (ℕ × Tree)) → Contains start s → Agrees z s
      → AreBuilt kept (substitute_all z ps) → IsFound z s found (λ q. AreSettled kept z q ps)
