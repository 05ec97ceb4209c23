-- What contracts see of the files of the system, which tell nothing of their bytes.
use Rattle.std.specs.Prelude.{ℕ, Bool}

-- whether a file is open, and how many of its bytes were read; how many calls of `open` and of both
-- kinds were made, and how many of each kind failed
pub record SystemFiles : Type 0 where
  pub is_open : Bool
  pub taken : ℕ
  pub opens : ℕ
  pub calls : ℕ
  pub open_faults : ℕ
  pub read_faults : ℕ
