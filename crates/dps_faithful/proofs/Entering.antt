-- A new entry leaves the solutions of a node as they are.
use Rattle.std.proofs.Common.{◌≡◌, ℕ, zero, suc, ◌+◌, ◌<◌, List, [], ◌∷◌, ◌++◌, map, refl, sym, ◌∙◌, ap, subst, inl, inr, arith, false, Some, None}
use Rattle.std.specs.Prelude.{◌⊎◌, ◌↔◌, Contains, slice_get, filter_map}
use Rattle.std.proofs.lemmas.List.Elements.{filter_map-append}
use Rattle.dps_terms.specs.Tree.{Leaf, public, private, var, ax, entry, rigid, Tree}
use Rattle.dps_terms.specs.Replace.{substitute}
use Rattle.dps_terms.specs.Kinds.{AnySymbol, NoRigidName}
use Rattle.dps_terms.proofs.Building.{built_weaker}
use Rattle.dps_process.specs.Problem.{Problem}
use Rattle.dps_know.specs.Know.{compositions}
use Rattle.dps_know.specs.declared.know.Entry.{Entry}
use Rattle.dps_know.proofs.Listing.{all_of}
use Rattle.dps_solver.specs.Levels.{IsLeafUpTo, IsGroundUpTo}
use Rattle.dps_solver.specs.Solutions.{IsNormalUnder, IsSolution}
use Rattle.std.proofs.lemmas.List.Elements.{All-contains}
use Rattle.dps_node.specs.Node.{Node, label_trees, system_of}
use Rattle.dps_node.specs.Knowing.{with_entry, with_handle}
use Rattle.dps_node.specs.Invariant.{IsSound}
use Rattle.dps_faithful.proofs.Lists.{in_front, nothing_more}
use Rattle.dps_faithful.proofs.Recording.{variable_low}

from_longer : {X : Type 0} (xs : List X) (x : X) (j : ℕ) (y : X) → slice_get (xs ++ x ∷ []) j ≡ Some y → (slice_get xs j ≡ Some y) ⊎ (x ≡ y)
from_longer {X} [] x zero y e = inr (one x y e)
  where
    one : (u v : X) → Some u ≡ Some v → u ≡ v
    one u v q = cc
from_longer [] x (suc j) y e = cc
from_longer (z ∷ xs) x zero y e = inl e
from_longer (z ∷ xs) x (suc j) y e = from_longer xs x j y e

module _ (problem : Problem) (node : Node) (sound : IsSound problem node) (work : node.closed ≡ false) (recipe : Tree) (values : List Tree) where
  abbrev after : Node
  after = with_entry node recipe values

  abbrev added : Entry
  added = record { recipe = recipe; level = node.m; composition = None }

  same_compositions : compositions after.know ≡ compositions node.know
  same_compositions =
      filter_map-append (λ (e : Entry). e.composition) node.know.entries (added ∷ [])
      ∙ nothing_more (compositions node.know) (filter_map (λ (e : Entry). e.composition) (added ∷ [])) refl

  ground_after : (l : ℕ) (u : Tree) → IsGroundUpTo NoRigidName node.m node.know l u → IsGroundUpTo NoRigidName node.m after.know l u
  ground_after l u up = built_weaker (IsLeafUpTo NoRigidName node.m node.know [] l) AnySymbol (IsLeafUpTo NoRigidName node.m after.know [] l) u up at
    where
      at : (x : Leaf) → IsLeafUpTo NoRigidName node.m node.know [] l x → IsLeafUpTo NoRigidName node.m after.know [] l x
      at (public n) h = h
      at (private n) h = h
      at (ax n) h = h
      at (rigid n) h = h
      at (var n) h = h
      at (entry zero) h = h
      at (entry (suc n)) h = (h.0, in_front node.know.entries (added ∷ []) n h.0 h.1, h.2)

  ground_before : (l : ℕ) (u : Tree) → l < node.m → IsGroundUpTo NoRigidName node.m after.know l u → IsGroundUpTo NoRigidName node.m node.know l u
  ground_before l u low up = built_weaker (IsLeafUpTo NoRigidName node.m after.know [] l) AnySymbol (IsLeafUpTo NoRigidName node.m node.know [] l) u up at
    where
      at : (x : Leaf) → IsLeafUpTo NoRigidName node.m after.know [] l x → IsLeafUpTo NoRigidName node.m node.know [] l x
      at (public n) h = h
      at (private n) h = h
      at (ax n) h = h
      at (rigid n) h = h
      at (var n) h = h
      at (entry zero) h = h
      at (entry (suc n)) h = elim (from_longer node.know.entries added n h.0 h.1) [
        | inl k ↦ (h.0, k, h.2)
        | inr k ↦ absurd (let level = ap (λ (e : Entry). e.level) k in omega (arith, level, h.2, low))
      ]

  normal_after : (s : ℕ → Tree) (u : Tree) → IsNormalUnder s (system_of node) u → IsNormalUnder s (system_of after) u
  normal_after s u h r k inside = h r (subst (λ (cs : List Tree). Contains (map (substitute s) cs) r) same_compositions k) inside

  normal_before : (s : ℕ → Tree) (u : Tree) → IsNormalUnder s (system_of after) u → IsNormalUnder s (system_of node) u
  normal_before s u h r k inside = h r (subst (λ (cs : List Tree). Contains (map (substitute s) cs) r) (sym same_compositions) k) inside

  pub entering_keeps : (s : ℕ → Tree) → IsSolution NoRigidName (system_of node) s ↔ IsSolution NoRigidName (system_of after) s
  entering_keeps s = (
    λ h. record {
      choice = record { trees = λ x l e. ground_after l (s x) (h.choice.trees x l e); others = h.choice.others };
      normal = λ x l e. normal_after s (s x) (h.normal x l e);
      respects = record {
        labels = all_of (λ u. IsNormalUnder s (system_of after) (substitute s u)) (label_trees node) (λ u k.
            normal_after s (substitute s u) (All-contains (λ u. IsNormalUnder s (system_of node) (substitute s u)) (label_trees node) u h.respects.labels k));
        disequations = h.respects.disequations;
      };
    },
    λ h. record {
      choice = record { trees = λ x l e. ground_before l (s x) (variable_low problem node sound work x l e) (h.choice.trees x l e); others = h.choice.others };
      normal = λ x l e. normal_before s (s x) (h.normal x l e);
      respects = record {
        labels = all_of (λ u. IsNormalUnder s (system_of node) (substitute s u)) (label_trees node) (λ u k.
            normal_before s (substitute s u) (All-contains (λ u. IsNormalUnder s (system_of after) (substitute s u)) (label_trees node) u h.respects.labels k));
        disequations = h.respects.disequations;
      };
    },
  )

-- and so does the tree of a handle
pub handle_keeps : (node : Node) (t : Tree) (s : ℕ → Tree) → IsSolution NoRigidName (system_of node) s ↔ IsSolution NoRigidName (system_of (with_handle node t)) s
handle_keeps node t s = (
  λ h. record {
    choice = record { trees = h.choice.trees; others = h.choice.others };
    normal = h.normal;
    respects = record { labels = h.respects.labels; disequations = h.respects.disequations };
  },
  λ h. record {
    choice = record { trees = h.choice.trees; others = h.choice.others };
    normal = h.normal;
    respects = record { labels = h.respects.labels; disequations = h.respects.disequations };
  },
)
