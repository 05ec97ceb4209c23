-- Instances of patterns that are made of entries: kept trees that stand for parts of the pattern.
use Rattle.std.specs.Prelude.{◌≡◌, ◌⊎◌, ◌≤◌, ◌<◌, ◌+◌, ℕ, List, [], ◌∷◌, length, slice_get, Some, Contains, ⊤}
use Rattle.dps_terms.specs.Tree.{Tree, Trees, leaf, app, none, more, var, StandsIn}
use Rattle.dps_terms.specs.Replace.{substitute}
use Rattle.dps_terms.specs.Views.{arguments}
use Rattle.dps_unify.specs.Matching.{Agrees}
use Rattle.dps_static.specs.Generic.{IsBuilt, IsBoundBy, IsSettled, IsFound}
use Rattle.dps_static.specs.Saturation.{StartsWith}

-- the tree is kept at one of the places, counted from 0, from the first number on and before the second
pub record IsKeptWithin (kept : List Tree) (start end : ℕ) (t : Tree) : Type 0 where
  pub place : ℕ
  pub behind : start ≤ place
  pub before : place < end
  pub there : slice_get kept place ≡ Some t

-- Down to the variables z makes each part of the pattern an entry, or a symbol over parts of which the same holds; and it
-- makes each variable a tree that is built from the kept ones.
abbrev mutual
  pub IsCut : (Tree → Type 0) → List Tree → (ℕ → Tree) → Tree → Type 0
  IsCut IsEntry kept z (leaf x) = IsBuilt kept (substitute z (leaf x))
  IsCut IsEntry kept z (app f ps) = IsEntry (substitute z (app f ps)) ⊎ AreCut IsEntry kept z ps

  pub AreCut : (Tree → Type 0) → List Tree → (ℕ → Tree) → Trees → Type 0
  AreCut IsEntry kept z none = ⊤
  AreCut IsEntry kept z (more p ps) = IsCut IsEntry kept z p × AreCut IsEntry kept z ps

-- the same of the patterns from the first number on and before the second
abbrev pub AreCutWithin : (Tree → Type 0) → List Tree → (ℕ → Tree) → List Tree → ℕ → ℕ → Type 0
AreCutWithin IsEntry kept z ps start end =
    (j : ℕ) (p : Tree) → start ≤ j → j < end → slice_get ps j ≡ Some p → IsCut IsEntry kept z p

-- those of the patterns are settled
abbrev pub AreSettledWithin : List Tree → (ℕ → Tree) → List (ℕ × Tree) → List Tree → ℕ → ℕ → Type 0
AreSettledWithin kept z s ps start end =
    (j : ℕ) (p : Tree) → start ≤ j → j < end → slice_get ps j ≡ Some p → IsSettled kept z s p

-- all are cut, and all are settled
abbrev pub AreAllCut : (Tree → Type 0) → List Tree → (ℕ → Tree) → List Tree → Type 0
AreAllCut IsEntry kept z ps = (j : ℕ) (p : Tree) → slice_get ps j ≡ Some p → IsCut IsEntry kept z p

abbrev pub AreAllSettled : List Tree → (ℕ → Tree) → List (ℕ × Tree) → List Tree → Type 0
AreAllSettled kept z s ps = (j : ℕ) (p : Tree) → slice_get ps j ≡ Some p → IsSettled kept z s p

-- Wherever z makes the pattern one of the kept trees at these places, one of the substitutions that were found binds all
-- variables of the pattern.
pub record CoversEntries (kept : List Tree) (start end : ℕ) (p : Tree) (begun found : List (List (ℕ × Tree))) : Type 0 where
  pub covers :
      (z : ℕ → Tree) (s : List (ℕ × Tree)) → Contains begun s → Agrees z s → IsKeptWithin kept start end (substitute z p)
      → IsFound z s found (λ q. (n : ℕ) → StandsIn (var n) p → IsBoundBy q n)

-- Also where more is kept later: wherever z cuts the pattern at the first n kept trees, one of the substitutions that were
-- found settles it.
pub record Covers (kept : List Tree) (n : ℕ) (p : Tree) (begun found : List (List (ℕ × Tree))) : Type 0 where
  pub covers :
      (later : List Tree) → StartsWith later kept
      → (z : ℕ → Tree) (s : List (ℕ × Tree)) → Contains begun s → Agrees z s
      → IsCut (IsKeptWithin kept 0 n) later z p → IsFound z s found (λ q. IsSettled later z q p)

pub record CoversArguments (kept : List Tree) (n : ℕ) (ps : List Tree) (start end : ℕ) (begun found : List (List (ℕ × Tree))) : Type 0 where
  pub covers :
      (later : List Tree) → StartsWith later kept
      → (z : ℕ → Tree) (s : List (ℕ × Tree)) → Contains begun s → Agrees z s
      → AreCutWithin (IsKeptWithin kept 0 n) later z ps start end → IsFound z s found (λ q. AreSettledWithin later z q ps start end)

-- the same of all patterns beside the pivot, where those before it are cut at the first n kept trees, and those behind it at any
pub record CoversAround (kept : List Tree) (n : ℕ) (ps : List Tree) (pivot : ℕ) (begun found : List (List (ℕ × Tree))) : Type 0 where
  pub covers :
      (later : List Tree) → StartsWith later kept
      → (z : ℕ → Tree) (s : List (ℕ × Tree)) → Contains begun s → Agrees z s
      → AreCutWithin (IsKeptWithin kept 0 n) later z ps 0 pivot
      → AreCutWithin (IsKeptWithin kept 0 (length kept)) later z ps (pivot + 1) (length ps)
      → IsFound z s found (λ q. AreSettledWithin later z q ps 0 pivot × AreSettledWithin later z q ps (pivot + 1) (length ps))

-- Also where more is kept later: what z cuts at the kept trees it cuts at the first n of them, or one of the substitutions
-- that were found settles it.
pub record CoversNew (kept : List Tree) (n : ℕ) (p : Tree) (begun found : List (List (ℕ × Tree))) : Type 0 where
  pub covers :
      (later : List Tree) → StartsWith later kept
      → (z : ℕ → Tree) (s : List (ℕ × Tree)) → Contains begun s → Agrees z s
      → IsCut (IsKeptWithin kept 0 (length kept)) later z p
      → IsCut (IsKeptWithin kept 0 n) later z p ⊎ IsFound z s found (λ q. IsSettled later z q p)

pub record CoversNewArguments (kept : List Tree) (n : ℕ) (ps : List Tree) (begun found : List (List (ℕ × Tree))) : Type 0 where
  pub covers :
      (later : List Tree) → StartsWith later kept
      → (z : ℕ → Tree) (s : List (ℕ × Tree)) → Contains begun s → Agrees z s
      → AreAllCut (IsKeptWithin kept 0 (length kept)) later z ps
      → AreAllCut (IsKeptWithin kept 0 n) later z ps ⊎ IsFound z s found (λ q. AreAllSettled later z q ps)

-- the same for the arguments of a left side, from nothing on
abbrev pub CoversNewLeft : List Tree → ℕ → Tree → List (List (ℕ × Tree)) → Type 0
CoversNewLeft kept n left found = CoversNewArguments kept n (arguments left) ([] ∷ []) found

-- Also where more is kept later: wherever z cuts the arguments of the left side at the first n kept trees, one of the
-- substitutions that were found settles them.
pub record CoversBefore (kept : List Tree) (n : ℕ) (left : Tree) (found : List (List (ℕ × Tree))) : Type 0 where
  pub covers :
      (later : List Tree) → StartsWith later kept
      → (z : ℕ → Tree) → AreAllCut (IsKeptWithin kept 0 n) later z (arguments left)
      → IsFound z [] found (λ q. AreAllSettled later z q (arguments left))
