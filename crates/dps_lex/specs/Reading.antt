-- What a text is: blanks, comments and tokens, one behind the other, up to its end or to its first fault.
use Rattle.std.specs.Prelude.{◌≡◌, ◌≢◌, ◌≤◌, ℕ, ◌+◌, List, [], ◌∷◌, ◌++◌, true, ◌==◌, Option, Some, None, length, count_by, not}
use Rattle.std.specs.List.{suffix_len}
use Rattle.dps_lex.specs.Alphabet.{newline, is_blank}
use Rattle.dps_lex.specs.CommentText.{opening, IsComment}
use Rattle.dps_lex.specs.LexemeText.{IsLexeme, IsToken, IsFaulty}
use Rattle.dps_lex.specs.declared.vocabulary.TokenKind.{TokenKind}
use Rattle.dps_lex.specs.declared.vocabulary.Token.{Token}
use Rattle.dps_lex.specs.declared.vocabulary.FaultKind.{FaultKind}
use Rattle.dps_lex.specs.declared.vocabulary.FaultKind.TheVariants.{BadByte, OpenComment}
use Rattle.dps_lex.specs.declared.vocabulary.Fault.{Fault}
use Rattle.dps_lex.specs.declared.vocabulary.LexRefusal.{LexRefusal}
use Rattle.dps_lex.specs.declared.vocabulary.LexRefusal.TheVariants.{Fault as Faulty, Memory}

-- The line and the column, from 1, of what stands behind these bytes. A newline ends a line; columns count bytes.
abbrev pub line_behind : List ℕ → ℕ
line_behind before = 1 + count_by (λ b. b == newline) before

abbrev pub column_behind : List ℕ → ℕ
column_behind before = 1 + suffix_len (λ b. not (b == newline)) before

-- the bytes begin with this text
abbrev pub BeginsWith : List ℕ → List ℕ → Type 0
BeginsWith text bytes = (after : List ℕ) × (bytes ≡ text ++ after)

-- a blank or a comment
pub data IsGap : List ℕ → Type 0 where
  blank : {text : List ℕ} {b : ℕ} → text ≡ b ∷ [] → is_blank b ≡ true → IsGap text
  comment : {text : List ℕ} → IsComment text → IsGap text

-- The bytes begin with this lexeme, and with no longer one. They begin no comment.
pub record IsFirstLexeme (text bytes : List ℕ) : Type 0 where
  pub begins : BeginsWith text bytes
  pub lexeme : IsLexeme text
  pub longest : (other : List ℕ) → BeginsWith other bytes → IsLexeme other → length other ≤ length text
  pub no_comment : ¬ BeginsWith opening bytes

-- the bytes begin with a fault of this kind
abbrev pub BeginsFault : FaultKind → List ℕ → Type 0
BeginsFault OpenComment bytes = BeginsWith opening bytes × ((text : List ℕ) → BeginsWith text bytes → ¬ IsComment text)
BeginsFault BadByte bytes = (bytes ≢ []) × (¬ BeginsWith opening bytes) × ((text : List ℕ) → BeginsWith text bytes → ¬ IsGap text) × ((text : List ℕ) → BeginsWith text bytes → ¬ IsLexeme text)
BeginsFault kind bytes = (text : List ℕ) × IsFirstLexeme text bytes × IsFaulty kind text

-- the token with this text behind these bytes
abbrev pub token_at : List ℕ → TokenKind → List ℕ → Token
token_at before kind text = record { kind = kind; start = length before; end = length before + length text; line = line_behind before; column = column_behind before }

-- the fault behind these bytes
abbrev pub fault_at : List ℕ → FaultKind → Fault
fault_at before kind = record { line = line_behind before; column = column_behind before; kind = kind }

-- Read behind the bytes `before`, the rest holds these tokens, up to its end or to this fault: gaps and tokens follow
-- one another, each token the longest there is, and behind a fault nothing is read.
pub data Reads : List ℕ → List ℕ → List Token → Option Fault → Type 0 where
  end : {before : List ℕ} → Reads before [] [] None
  gap : {before rest text after : List ℕ} {tokens : List Token} {stop : Option Fault} → rest ≡ text ++ after → IsGap text → Reads (before ++ text) after tokens stop → Reads before rest tokens stop
  token :
      {before rest text after : List ℕ} {kind : TokenKind} {tokens : List Token} {stop : Option Fault} → rest ≡ text ++ after → IsFirstLexeme text rest
      → IsToken kind text → Reads (before ++ text) after tokens stop → Reads before rest (token_at before kind text ∷ tokens) stop
  fault : {before rest : List ℕ} {kind : FaultKind} → BeginsFault kind rest → Reads before rest [] (Some (fault_at before kind))

-- The text holds these tokens and no others, up to its end, or up to this fault, its first.
abbrev pub IsReading : List ℕ → List Token → Option Fault → Type 0
IsReading bytes tokens stop = Reads [] bytes tokens stop

-- The text is refused by its first fault, or for want of memory.
abbrev pub IsRefused : List ℕ → LexRefusal → Type 0
IsRefused bytes (Faulty first) = (front : List Token) × IsReading bytes front (Some first)
IsRefused bytes Memory = Unit {0}
