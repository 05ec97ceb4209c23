-- What contracts see of an object that reads files.
use Rattle.std.specs.Prelude.{ℕ, List, Bool, Option}

-- The bytes of the file of each name, where the object tells them; whether a file is open; what is left of the open
-- file, where the object tells it, and how many of its bytes were read; how many calls of `open` were made, and how many
-- of `open` and `read`; and how many of each kind failed.
pub record FilesState : Type 0 where
  pub told : List ℕ → Option (List ℕ)
  pub is_open : Bool
  pub left : Option (List ℕ)
  pub taken : ℕ
  pub opens : ℕ
  pub calls : ℕ
  pub open_faults : ℕ
  pub read_faults : ℕ
