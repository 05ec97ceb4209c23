-- What is known of pairs that are still to become equal, and of those that were taken apart.
use Rattle.std.specs.Prelude.{◌≡◌, ◌⊎◌, ℕ, length, List, [], ◌∷◌, ◌++◌, drop, Option, Some, None, Contains}
use Rattle.std.specs.List.{zip}
use Rattle.dps_terms.specs.Tree.{var, Tree, leaf}
use Rattle.dps_terms.specs.Views.{arguments, HaveSameRoot}
use Rattle.dps_unify.specs.Unifier.{Unifies}
use Rattle.dps_unify.specs.Chain.{Fulfils, Resolves}
use Rattle.dps_unify.specs.Difference.{pairs_of}
use Rattle.dps_unify.specs.declared.pending.Begun.{Begun}
use Rattle.dps_unify.specs.declared.pending.Pending.{Pending}

-- the trees of the pairs that are pending
abbrev pub trees_of : Pending → List (Tree × Tree)
trees_of pending = pairs_of pending.pairs.items

-- Whatever fulfils the bindings makes equal: each two variables whose pair was taken apart, where it unifies those of the
-- given pairs that are above the ones that stood below; and the variables of each pair that is known to be equal.
pub record AreKept (b : List (ℕ × Tree)) (pairs : List (Tree × Tree)) (pending : Pending) : Type 0 where
  pub begun :
      (m : Begun) → Contains pending.begun.items m → (r : ℕ → Tree) → Fulfils r b → Unifies r (drop m.below pairs) → r m.left ≡ r m.right
  pub equal : (p : ℕ × ℕ) → Contains pending.equal.keys p → (r : ℕ → Tree) → Fulfils r b → r p.0 ≡ r p.1

-- what is known where no pair is taken out, and where the pair of t and u is
abbrev pub IsKnown : List (ℕ × Tree) → Pending → Type 0
IsKnown b pending = AreKept b (trees_of pending) pending

abbrev pub IsKnownWith : List (ℕ × Tree) → Tree → Tree → Pending → Type 0
IsKnownWith b t u pending = AreKept b (trees_of pending ++ (t, u) ∷ []) pending

-- the trees are variables that are known to be equal
pub record AreKnownEqual (pending : Pending) (t u : Tree) : Type 0 where
  pub pair : ℕ × ℕ
  pub known : Contains pending.equal.keys pair
  pub left : t ≡ leaf (var pair.0)
  pub right : u ≡ leaf (var pair.1)

-- the variables are known to be equal
abbrev pub AreNotedEqual : Pending → Option (ℕ × ℕ) → Type 0
AreNotedEqual pending None = ⊥
AreNotedEqual pending (Some pair) = Contains pending.equal.keys pair

-- it is noted that the pair of these variables, which was taken out, is taken apart
pub record IsBegun (old : Pending) (variables : Option (ℕ × ℕ)) (new : Pending) : Type 0 where
  pub pairs : new.pairs.items ≡ old.pairs.items
  pub equal : new.equal.keys ≡ old.equal.keys
  pub begun :
      (m : Begun) → Contains new.begun.items m
      → Contains old.begun.items m ⊎ ((m.below ≡ length (trees_of old)) × (variables ≡ Some (m.left, m.right)))

-- the pair of t and u was the last of the pairs
abbrev pub IsLast : Pending → Tree → Tree → Pending → Type 0
IsLast old t u new = trees_of old ≡ trees_of new ++ (t, u) ∷ []

-- The pair of t and u was taken apart: the two are variables that are known to be equal, or the pairs of their arguments
-- have taken its place.
pub data IsTakenApart (b : List (ℕ × Tree)) (old : Pending) (t u : Tree) (new : Pending) : Type 0 where
  known : AreKnownEqual old t u → trees_of new ≡ trees_of old → IsTakenApart b old t u new
  opened :
      (a c : Tree) → Resolves b t a → Resolves b u c → HaveSameRoot a c
      → trees_of new ≡ trees_of old ++ zip (arguments a) (arguments c) → IsTakenApart b old t u new

-- t and u resolve to parts that differ at their roots, and no pair has changed
pub record AreApart (b : List (ℕ × Tree)) (old : Pending) (t u : Tree) (new : Pending) (a c : Tree) : Type 0 where
  pub left : Resolves b t a
  pub right : Resolves b u c
  pub apart : ¬ HaveSameRoot a c
  pub same : trees_of new ≡ trees_of old
