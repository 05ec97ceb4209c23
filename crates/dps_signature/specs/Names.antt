-- The texts that symbols and names have, and where they stand in a signature.
use Rattle.std.specs.Prelude.{◌≡◌, ◌≤◌, ◌<◌, ◌⊎◌, ℕ, ◌+◌, Bool, true, ◌&&◌, ◌||◌, ◌==◌, nat_le, List, [], ◌∷◌, ◌++◌, Option, IsSome, length, position, codes}
use Rattle.std.specs.List.{AllPass}
use Rattle.std.specs.Str.{byte, bytes_eq}
use Rattle.dps_signature.specs.declared.SymKind.{SymKind}
use Rattle.dps_signature.specs.declared.SymKind.TheVariants.{Constructor}
use Rattle.dps_signature.specs.Signature.{Symbol, Name, Signature}

-- A to Z and a to z
abbrev pub is_letter : ℕ → Bool
is_letter b = (nat_le (byte "A") b && nat_le b (byte "Z")) || (nat_le (byte "a") b && nat_le b (byte "z"))

-- 0 to 9
abbrev pub is_digit : ℕ → Bool
is_digit b = nat_le (byte "0") b && nat_le b (byte "9")

-- what may follow the first letter of an identifier
abbrev pub is_name_byte : ℕ → Bool
is_name_byte b = is_letter b || is_digit b || b == byte "_" || b == byte "'"

-- a letter, then letters, digits, `_` and `'`
abbrev pub IsWord : List ℕ → Type 0
IsWord [] = ⊥
IsWord (b ∷ bs) = (is_letter b ≡ true) × AllPass is_name_byte bs

-- `ax` followed by one digit or more, and by nothing else: so handles are written
abbrev pub IsHandleText : List ℕ → Type 0
IsHandleText (a ∷ x ∷ digits) = (a ≡ byte "a") × (x ≡ byte "x") × (0 < length digits) × AllPass is_digit digits
IsHandleText text = ⊥

-- an identifier that a symbol or a name may have: a word of at most 64 bytes that is no handle's text
pub record IsIdentifier (text : List ℕ) : Type 0 where
  pub word : IsWord text
  pub short : length text ≤ 64
  pub no_handle : ¬ IsHandleText text

-- the tuples of length n have a symbol that is named `(n)`
abbrev pub tuple_name : ℕ → List ℕ
tuple_name n = byte "(" ∷ (byte "0" + n) ∷ byte ")" ∷ []

-- the i-th projection of the tuples of length n is named `proj_i_n`
abbrev pub projection_name : ℕ → ℕ → List ℕ
projection_name i n = codes "proj_" ++ (byte "0" + i) ∷ byte "_" ∷ (byte "0" + n) ∷ []

pub record IsTupleSymbol (text : List ℕ) (kind : SymKind) (arity : ℕ) : Type 0 where
  pub named : text ≡ tuple_name arity
  pub builds : kind ≡ Constructor
  pub some : 2 ≤ arity
  pub few : arity ≤ 8

-- the text that a symbol of this kind and arity may have
abbrev pub IsSymbolText : List ℕ → SymKind → ℕ → Type 0
IsSymbolText text kind arity = IsIdentifier text ⊎ IsTupleSymbol text kind arity

-- the number of the symbol with this text
abbrev pub symbol_named : Signature → List ℕ → Option ℕ
symbol_named signature text = position (λ s. bytes_eq text s.name) signature.symbols

-- the number of the declared name with this text
abbrev pub name_named : Signature → List ℕ → Option ℕ
name_named signature text = position (λ n. bytes_eq text n.name) signature.names

-- a symbol or a name with this text is there
abbrev pub IsDeclaredText : Signature → List ℕ → Type 0
IsDeclaredText signature text = IsSome (symbol_named signature text) ⊎ IsSome (name_named signature text)

-- one more symbol, or one more name, at the end
abbrev pub with_symbol : Signature → Symbol → Signature
with_symbol signature s = record { symbols = signature.symbols ++ s ∷ []; names = signature.names }

abbrev pub with_name : Signature → Name → Signature
with_name signature n = record { symbols = signature.symbols; names = signature.names ++ n ∷ [] }
