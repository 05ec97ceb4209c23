-- A number above those of all the attacker's own names in trees.
use Rattle.std.proofs.Common.{◌≡◌, ℕ, ◌+◌, ◌<◌, List, [], ◌∷◌, inl, inr, arith, subst, Contains}
use Rattle.dps_terms.specs.declared.PublicName.{PublicName}
use Rattle.dps_terms.specs.declared.PublicName.TheVariants.{Declared, At}
use Rattle.dps_terms.specs.Tree.{Leaf, public, private, var, ax, entry, rigid, Tree, Trees, leaf, app, none, more, StandsIn, IsAmong, below, in_first, in_rest}
use Rattle.dps_know.proofs.Listing.{in_cons, in_none}
use Rattle.dps_unify.proofs.Trees.{in_leaf}
use Rattle.dps_directions.specs.Fresh.{HasNamesBelow}

abbrev name_above : PublicName → ℕ
name_above (At k) = k + 1
name_above (Declared n) = 0

abbrev leaf_above : Leaf → ℕ
leaf_above (public n) = name_above n
leaf_above (private n) = 0
leaf_above (var n) = 0
leaf_above (ax n) = 0
leaf_above (entry n) = 0
leaf_above (rigid n) = 0

abbrev mutual
  pub tree_above : Tree → ℕ
  tree_above (leaf x) = leaf_above x
  tree_above (app f ts) = trees_above ts

  pub trees_above : Trees → ℕ
  trees_above none = 0
  trees_above (more t ts) = tree_above t + trees_above ts

same_name : (k n : ℕ) → leaf (public (At k)) ≡ leaf (public (At n)) → k ≡ n
same_name k n e = cc

below_leaf : (k : ℕ) (x : Leaf) → leaf (public (At k)) ≡ leaf x → k < leaf_above x
below_leaf k (public (At n)) e = omega (arith, same_name k n e)
below_leaf k (public (Declared n)) e = cc
below_leaf k (private n) e = cc
below_leaf k (var n) e = cc
below_leaf k (ax n) e = cc
below_leaf k (entry n) e = cc
below_leaf k (rigid n) e = cc

mutual
  below_tree : (t : Tree) (k : ℕ) → StandsIn (public (At k)) t → k < tree_above t
  below_tree (leaf x) k h = below_leaf k x (in_leaf x (leaf (public (At k))) h)
  below_tree (app f ts) k (below h) = below_trees ts k h

  below_trees : (ts : Trees) (k : ℕ) → IsAmong (leaf (public (At k))) ts → k < trees_above ts
  below_trees none k h = elim h [ ]
  below_trees (more t ts) k (in_first h) = omega (arith, below_tree t k h)
  below_trees (more t ts) k (in_rest h) = omega (arith, below_trees ts k h)

abbrev pub all_above : List Tree → ℕ
all_above [] = 0
all_above (t ∷ ts) = tree_above t + all_above ts

pub names_below : (ts : List Tree) (t : Tree) → Contains ts t → HasNamesBelow (all_above ts) t
names_below [] t c k h = absurd (in_none t c)
names_below (u ∷ ts) t c k h = elim (in_cons t u ts c) [
  | inl e ↦ omega (arith, below_tree u k (subst (λ v. StandsIn (public (At k)) v) e h))
  | inr j ↦ omega (arith, names_below ts t j k h)
]
