-- Lexemes: the texts of tokens, before and after they are judged.
use Rattle.std.specs.Prelude.{◌≡◌, ◌≢◌, ◌≤◌, ◌<◌, ◌⊎◌, ℕ, List, [], ◌∷◌, Bool, true, false, ◌==◌, Some, length}
use Rattle.std.specs.List.{AllPass}
use Rattle.std.specs.Str.{byte}
use Rattle.std.specs.Str.Parse.{digits_value}
use Rattle.dps_lex.specs.Alphabet.{is_letter, is_digit, is_name_byte}
use Rattle.dps_lex.specs.Spelling.{keyword, sign}
use Rattle.dps_lex.specs.declared.vocabulary.TokenKind.{TokenKind}
use Rattle.dps_lex.specs.declared.vocabulary.TokenKind.TheVariants.{Identifier, Number}
use Rattle.dps_lex.specs.declared.vocabulary.FaultKind.{FaultKind}
use Rattle.dps_lex.specs.declared.vocabulary.FaultKind.TheVariants.{LongName, BadNumber, LargeNumber}

-- the most bytes of an identifier, and the largest number
abbrev pub longest_name : ℕ
longest_name = 64

abbrev pub largest_number : ℕ
largest_number = 1000000

-- a letter, then letters, digits, `_` and `'`
abbrev pub IsName : List ℕ → Type 0
IsName [] = ⊥
IsName (b ∷ bs) = (is_letter b ≡ true) × AllPass is_name_byte bs

-- one or more digits
abbrev pub IsDigits : List ℕ → Type 0
IsDigits [] = ⊥
IsDigits (b ∷ bs) = (is_digit b ≡ true) × AllPass is_digit bs

-- two digits or more, of which the first is 0
abbrev pub leads_with_zero : List ℕ → Bool
leads_with_zero (a ∷ b ∷ bs) = a == byte "0"
leads_with_zero _ = false

-- What a token looks like before it is judged: a name, digits, or a sign. A keyword is a name.
pub data IsLexeme : List ℕ → Type 0 where
  name : {text : List ℕ} → IsName text → IsLexeme text
  digits : {text : List ℕ} → IsDigits text → IsLexeme text
  sign_of : {text : List ℕ} (kind : TokenKind) → sign kind ≡ Some text → IsLexeme text

-- The lexeme is a token of this kind. No keyword is an identifier.
abbrev pub IsToken : TokenKind → List ℕ → Type 0
IsToken Identifier text = IsName text × (length text ≤ longest_name) × ((kind : TokenKind) → keyword kind ≢ Some text)
IsToken Number text = IsDigits text × (leads_with_zero text ≡ false) × (digits_value 10 text ≤ largest_number)
IsToken kind text = (keyword kind ≡ Some text) ⊎ (sign kind ≡ Some text)

-- The lexeme is no token, by this fault. Digits that lead with a zero are a bad number, however large.
abbrev pub IsFaulty : FaultKind → List ℕ → Type 0
IsFaulty LongName text = IsName text × (longest_name < length text)
IsFaulty BadNumber text = IsDigits text × (leads_with_zero text ≡ true)
IsFaulty LargeNumber text = IsDigits text × (leads_with_zero text ≡ false) × (largest_number < digits_value 10 text)
IsFaulty _ text = ⊥
