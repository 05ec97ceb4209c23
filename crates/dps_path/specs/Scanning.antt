-- How bytes are read as numbers with `/` between them, without a look at empty numbers and leading zeros.
use Rattle.std.specs.Prelude.{ℕ, ◌+◌, ◌*◌, ◌-◌, ◌^◌, List, [], ◌∷◌, ◌++◌, Option, Some, None, ◌&&◌, ◌==◌, nat_le, nat_lt, if◌then◌else◌}

-- the number with one more digit, below 2^32
abbrev pub longer : ℕ → ℕ → Option ℕ
longer n byte = if nat_le 48 byte && nat_le byte 57 && nat_lt (n * 10 + (byte - 48)) (2 ^ 32) then Some (n * 10 + (byte - 48)) else None

-- the numbers of all bytes, after these numbers and the one that has begun
abbrev pub scanned : List ℕ → Option ℕ → List ℕ → Option (List ℕ)
scanned numbers None bytes = None
scanned numbers (Some n) [] = Some (numbers ++ n ∷ [])
scanned numbers (Some n) (byte ∷ bytes) = if byte == 47 then scanned (numbers ++ n ∷ []) (Some 0) bytes else scanned numbers (longer n byte) bytes
