-- What is noted for digests.
use Rattle.std.specs.Prelude.{◌≡◌, ◌==◌, ◌++◌, ◌∷◌, ℕ, List, [], if◌then◌else◌, nat_eq, ◌<◌, length, get_or, Contains}
use Rattle.std.specs.Option.{option_map_or}
use Rattle.std.specs.HashMap.{get}
use Rattle.dps_bags.specs.declared.places.Places.{Places}

-- the numbers of those that have the digest
abbrev pub numbers_at : Places → ℕ → List ℕ
numbers_at places digest = option_map_or (λ numbers. numbers.items) (get nat_eq places.numbers digest) []

-- the number stands at the end of those of the digest, and nothing else has changed
abbrev pub IsNoted : Places → Places → ℕ → ℕ → Type 0
IsNoted old new digest number = (d : ℕ) → numbers_at new d ≡ (if d == digest then numbers_at old d ++ number ∷ [] else numbers_at old d)

-- both have the same numbers
abbrev pub HaveSame : Places → Places → Type 0
HaveSame old new = (d : ℕ) → numbers_at new d ≡ numbers_at old d

-- each item of the list is noted at its digest, by its place; past the end of the list stands d
abbrev pub AllNoted : {A : Type 0} → (A → ℕ) → A → List A → Places → Type 0
AllNoted digest d xs places = (i : ℕ) → i < length xs → Contains (numbers_at places (digest (get_or xs i d))) i
