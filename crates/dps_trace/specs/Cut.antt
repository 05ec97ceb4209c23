-- Newlines; and bytes up to the first one of a value, and those behind it.
use Rattle.std.specs.Prelude.{◌≡◌, ◌≢◌, List, [], ◌∷◌, ◌++◌, ℕ, ◌+◌, ◌==◌, if◌then◌else◌, ⊤}

-- how many newlines there are
abbrev pub newlines : List ℕ → ℕ
newlines [] = 0
newlines (b ∷ bytes) = (if b == 10 then 1 else 0) + newlines bytes

-- the value does not stand in it
abbrev pub IsWithout : ℕ → List ℕ → Type 0
IsWithout x [] = ⊤
IsWithout x (b ∷ bytes) = (b ≢ x) × IsWithout x bytes

-- the bytes are a front without the value, the value, and the rest
pub record IsCut (x : ℕ) (bytes front rest : List ℕ) : Type 0 where
  pub whole : bytes ≡ front ++ (x ∷ rest)
  pub without : IsWithout x front
