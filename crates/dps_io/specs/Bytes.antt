-- Bytes that an object may tell: `Some` of them, or `None` where it tells nothing.
use Rattle.std.specs.Prelude.{◌≡◌, ℕ, ◌<◌, List, length, take, Option}
use Rattle.std.specs.Io.KnownBytes.{prepend_known, append_known}

-- the same files are told, each with the same bytes
abbrev pub TellsTheSame : (List ℕ → Option (List ℕ)) → (List ℕ → Option (List ℕ)) → Type 0
TellsTheSame old new = (name : List ℕ) → new name ≡ old name

-- so many bytes were read from the front of a file, and the others are left
pub record HasRead (count : ℕ) (file left : Option (List ℕ)) : Type 0 where
  pub bytes : List ℕ
  pub all_counted : length bytes ≡ count
  pub others_left : file ≡ prepend_known bytes left

-- behind the old bytes stands a front of these bytes, but not all of them
pub record AppendsFront (old new : Option (List ℕ)) (bytes : List ℕ) : Type 0 where
  pub count : ℕ
  pub not_all : count < length bytes
  pub appended : new ≡ append_known old (take count bytes)
