-- Bags of numbers: lists, up to their order.
use Rattle.std.specs.Prelude.{◌≡◌, ◌⊎◌, ◌<◌, ℕ, ◌+◌, List, [], ◌∷◌, ◌++◌, length, get_or, Contains}
use Rattle.std.specs.List.Sorted.{IsPermutation, IsNonDecreasing}
use Rattle.dps_bags.specs.declared.places.Places.{Places}
use Rattle.dps_bags.specs.Apart.{StandOnce}
use Rattle.dps_bags.specs.Digest.{numbers_digest}
use Rattle.dps_bags.specs.Places.{AllNoted}

-- n is one of the numbers, and the others are left
pub data Draws (n : ℕ) : List ℕ → List ℕ → Type 0 where
  drawn_here : {ns : List ℕ} → Draws n (n ∷ ns) ns
  drawn_there : {m : ℕ} {ns rest : List ℕ} → Draws n ns rest → Draws n (m ∷ ns) (m ∷ rest)

-- the numbers of both, in some order
abbrev pub IsJoined : List ℕ → List ℕ → List ℕ → Type 0
IsJoined one other bag = IsPermutation (one ++ other) bag

-- the number before the one at this place is the same
abbrev pub IsRepeated : List ℕ → ℕ → Type 0
IsRepeated bag i = (j : ℕ) × (i ≡ j + 1) × (get_or bag j 0 ≡ get_or bag i 0)

-- more bags stand at the end, and none is gone
abbrev pub IsLonger : List (List ℕ) → List (List ℕ) → Type 0
IsLonger old new = (more : List (List ℕ)) × (new ≡ old ++ more)

-- one of the bags has the numbers of both, in some order
abbrev pub HasJoined : List (List ℕ) → List ℕ → List ℕ → Type 0
HasJoined bags one other = (bag : List ℕ) × Contains bags bag × IsJoined one other bag

-- the bags are those of one and of another together, each in some order, and no more
pub record AreJoined (ones others bags : List (List ℕ)) : Type 0 where
  pub complete : (one other : List ℕ) → Contains ones one → Contains others other → HasJoined bags one other
  pub sound :
      (bag : List ℕ) → Contains bags bag
      → (one : List ℕ) × (other : List ℕ) × Contains ones one × Contains others other × IsJoined one other bag

-- the new bags are the old ones, and those of one with each of the others
pub record AddsJoined (one : List ℕ) (others old new : List (List ℕ)) : Type 0 where
  pub kept : (bag : List ℕ) → Contains old bag → Contains new bag
  pub complete : (other : List ℕ) → Contains others other → HasJoined new one other
  pub sound : (bag : List ℕ) → Contains new bag → Contains old bag ⊎ ((other : List ℕ) × Contains others other × IsJoined one other bag)

-- no bag stands twice, and the numbers of each are in ascending order
pub record AreKept (bags : List (List ℕ)) : Type 0 where
  pub once : StandOnce [] bags
  pub ascending : (bag : List ℕ) → Contains bags bag → IsNonDecreasing bag

-- the bag stands at the place
abbrev pub IsAt : List (List ℕ) → ℕ → List ℕ → Type 0
IsAt bags place bag = (place < length bags) × (get_or bags place [] ≡ bag)

-- it stands at one of the places
abbrev pub StandsAt : List (List ℕ) → List ℕ → List ℕ → Type 0
StandsAt bags places bag = (place : ℕ) × Contains places place × IsAt bags place bag

-- each bag is noted at its digest, by its place
abbrev pub AreBagsNoted : List (List ℕ) → Places → Type 0
AreBagsNoted bags places = AllNoted (numbers_digest 0) [] bags places
