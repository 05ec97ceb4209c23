-- What files and sinks in memory hold, as their contracts see them.
use Rattle.std.specs.Prelude.{ℕ, List, [], ◌∷◌, drop, Bool, Option, Some, None, option_map, slice_get, string_bytes, String, Vec, if◌then◌else◌}
use Rattle.std.specs.Str.{bytes_eq}
use Rattle.std.specs.declared.alloc.Global.{Global}

-- a file: its name and its bytes
pub record HeldFile : Type 0 where
  pub name : List ℕ
  pub bytes : List ℕ

-- files in memory: all files; the numbers of the calls that fail; whether a file is open, what is left of it, and
-- how many of its bytes were read; how many calls of `open` and of both kinds were made, and how many of each kind failed
pub record HeldFiles : Type 0 where
  pub files : List HeldFile
  pub failing : List ℕ
  pub is_open : Bool
  pub left : Option (List ℕ)
  pub taken : ℕ
  pub opens : ℕ
  pub calls : ℕ
  pub open_faults : ℕ
  pub read_faults : ℕ

-- a sink in memory: the bytes that were written; how many it takes at one call and in all; the numbers of the calls
-- that fail; how many calls were made, and how many failed
pub record HeldSink : Type 0 where
  pub written : List ℕ
  pub most : ℕ
  pub room : ℕ
  pub failing : List ℕ
  pub calls : ℕ
  pub faults : ℕ

-- a name with its bytes, as it is stored
abbrev pub NamedBytes : Type 0
NamedBytes = String Global × Vec ℕ Global

-- the files of these names and bytes
abbrev pub held : List NamedBytes → List HeldFile
held [] = []
held (file ∷ files) = record { name = string_bytes file.0; bytes = file.1.items } ∷ held files

-- the bytes of the first file of that name
abbrev pub bytes_named : List HeldFile → List ℕ → Option (List ℕ)
bytes_named [] name = None
bytes_named (file ∷ files) name = if bytes_eq file.name name then Some file.bytes else bytes_named files name

-- what is left of the open file, by its place among the files and how many of its bytes were read
abbrev pub left_of : List NamedBytes → Option ℕ → ℕ → Option (List ℕ)
left_of files None taken = None
left_of files (Some at) taken = option_map (λ file. drop taken file.1.items) (slice_get files at)
