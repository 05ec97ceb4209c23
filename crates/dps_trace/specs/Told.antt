-- A value that is there where a test says so.
use Rattle.std.specs.Prelude.{Bool, true, false, Option, Some, None}

abbrev pub told : {A : Type 0} → Bool → A → Option A
told true x = Some x
told false x = None
