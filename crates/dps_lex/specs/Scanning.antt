-- What the steps of the scan say. Only private functions cite these words.
use Rattle.std.specs.Prelude.{◌≡◌, ◌≢◌, ◌≤◌, ◌<◌, ℕ, ◌+◌, List, ◌∷◌, take, drop, length, Some, Bool, false, ◌==◌, ◌&&◌, not, slice_range}
use Rattle.std.specs.Str.{byte}
use Rattle.dps_lex.specs.Alphabet.{newline}
use Rattle.dps_lex.specs.Spelling.{keyword, sign}
use Rattle.dps_lex.specs.CommentText.{IsComment}
use Rattle.dps_lex.specs.LexemeText.{IsToken}
use Rattle.dps_lex.specs.Reading.{line_behind, column_behind, BeginsWith, IsGap, IsFirstLexeme, BeginsFault}
use Rattle.dps_lex.specs.declared.vocabulary.TokenKind.{TokenKind}
use Rattle.dps_lex.specs.declared.vocabulary.TokenKind.TheVariants.{Identifier}
use Rattle.dps_lex.specs.declared.position.Position.{Position}
use Rattle.dps_lex.specs.declared.scan.Piece.{Piece}
use Rattle.dps_lex.specs.declared.scan.Piece.TheVariants.{Gap, Word, Stop}

-- the position is one of the text: its offset is within the text, and its line and column are those of this offset
pub record IsPosition (bytes : List ℕ) (position : Position) : Type 0 where
  pub within : position.at ≤ length bytes
  pub line : position.line ≡ line_behind (take position.at bytes)
  pub column : position.line_start + column_behind (take position.at bytes) ≡ position.at + 1

-- the kind of a name: its keyword's, or an identifier
abbrev pub IsNamed : TokenKind → List ℕ → Type 0
IsNamed Identifier text = (kind : TokenKind) → keyword kind ≢ Some text
IsNamed kind text = keyword kind ≡ Some text

-- no sign has this text
pub record HasNoSign (text : List ℕ) : Type 0 where
  pub none : (kind : TokenKind) → sign kind ≢ Some text

-- `->` is at the front
abbrev pub starts_arrow : List ℕ → Bool
starts_arrow (a ∷ b ∷ bs) = a == byte "-" && b == byte ">"
starts_arrow _ = false

-- the first n bytes are the first lexeme, a token of this kind
pub record BeginsToken (bytes : List ℕ) (kind : TokenKind) (n : ℕ) : Type 0 where
  pub some : 0 < n
  pub within : n ≤ length bytes
  pub first : IsFirstLexeme (take n bytes) bytes
  pub token : IsToken kind (take n bytes)

-- the byte ends no line, and is the first of no mark of a comment
abbrev pub is_plain : ℕ → Bool
is_plain b = not (b == newline) && not (b == byte "(") && not (b == byte "*")

-- no comment is at the front
pub record HasNoComment (bytes : List ℕ) : Type 0 where
  pub none : (text : List ℕ) → BeginsWith text bytes → ¬ IsComment text

-- between these positions stands a comment
pub record IsCommentTo (bytes : List ℕ) (from : ℕ) (to : Position) : Type 0 where
  pub position : IsPosition bytes to
  pub on : from < to.at
  pub comment : IsComment (slice_range bytes from to.at)

-- between these positions stands a gap
pub record IsGapTo (bytes : List ℕ) (from : ℕ) (to : Position) : Type 0 where
  pub position : IsPosition bytes to
  pub on : from < to.at
  pub gap : IsGap (slice_range bytes from to.at)

-- what stands in the text from an offset on
abbrev pub IsPiece : List ℕ → ℕ → Piece → Type 0
IsPiece bytes from (Gap to) = IsGapTo bytes from to
IsPiece bytes from (Word found) = BeginsToken (drop from bytes) found.kind found.len
IsPiece bytes from (Stop kind) = BeginsFault kind (drop from bytes)
