-- The bytes that a text is made of.
use Rattle.std.specs.Prelude.{ℕ, Bool, ◌&&◌, ◌||◌, ◌==◌, nat_le}
use Rattle.std.specs.Str.{byte}

-- the byte that ends a line
abbrev pub newline : ℕ
newline = 10

-- space, tab, newline and carriage return
abbrev pub is_blank : ℕ → Bool
is_blank b = b == 32 || b == 9 || b == newline || b == 13

-- A to Z and a to z
abbrev pub is_letter : ℕ → Bool
is_letter b = (nat_le (byte "A") b && nat_le b (byte "Z")) || (nat_le (byte "a") b && nat_le b (byte "z"))

-- 0 to 9
abbrev pub is_digit : ℕ → Bool
is_digit b = nat_le (byte "0") b && nat_le b (byte "9")

-- what may follow the first letter of a name
abbrev pub is_name_byte : ℕ → Bool
is_name_byte b = is_letter b || is_digit b || b == byte "_" || b == byte "'"
