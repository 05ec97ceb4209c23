-- Where kept trees are looked for, by their digests.
use Rattle.std.specs.Prelude.{◌≡◌, ◌⊎◌, ◌≤◌, ℕ, nat_eq, true, List, length, Some, slice_get}
use Rattle.std.specs.List.{list_any}
use Rattle.std.specs.Map.{lookup}
use Rattle.dps_terms.specs.Tree.{Tree, node_count}
use Rattle.dps_terms.specs.Digest.{digest}

-- a place stands for the digest, and it is not behind k
pub record HasPlaceUpTo (places : List (ℕ × ℕ)) (digest k : ℕ) : Type 0 where
  pub place : ℕ
  pub there : lookup (nat_eq digest) places ≡ Some place
  pub within : place ≤ k

-- for the digest of each kept tree stands a place that is not behind it
pub record ArePlacesOf (kept : List Tree) (places : List (ℕ × ℕ)) : Type 0 where
  pub listed : (k : ℕ) (t : Tree) → slice_get kept k ≡ Some t → HasPlaceUpTo places (digest t) k
  pub bounded : (d k : ℕ) → lookup (nat_eq d) places ≡ Some k → k ≤ length kept

-- some place stands for the digest, the given one if it is new, and the others are as before
pub record IsPlaced (places : List (ℕ × ℕ)) (digest place : ℕ) (later : List (ℕ × ℕ)) : Type 0 where
  pub keeps : (d k : ℕ) → lookup (nat_eq d) places ≡ Some k → lookup (nat_eq d) later ≡ Some k
  pub only : (d k : ℕ) → lookup (nat_eq d) later ≡ Some k → (lookup (nat_eq d) places ≡ Some k) ⊎ (k ≡ place)
  pub found : ℕ
  pub there : lookup (nat_eq digest) later ≡ Some found

-- so many nodes are few, or the number is there
abbrev pub HasSize : List ℕ → ℕ → Type 0
HasSize sizes n = (n ≤ 16) ⊎ (list_any (nat_eq n) sizes ≡ true)

-- each kept tree has few nodes, or their number is there
abbrev pub AreSizesOf : List Tree → List ℕ → Type 0
AreSizesOf kept sizes = (k : ℕ) (t : Tree) → slice_get kept k ≡ Some t → HasSize sizes (node_count t)

-- the number is there if it is not small, and all others are still there
pub record IsSized (sizes : List ℕ) (n : ℕ) (later : List ℕ) : Type 0 where
  pub keeps : (m : ℕ) → HasSize sizes m → HasSize later m
  pub there : HasSize later n
