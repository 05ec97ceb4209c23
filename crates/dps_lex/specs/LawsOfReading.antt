-- What a reader may expect of readings. Each of these statements is the contract of a function of the crate.
use Rattle.std.specs.Prelude.{◌≡◌, ◌≤◌, ◌<◌, ℕ, List, [], ◌∷◌, Option, length, All, slice_range, codes}
use Rattle.dps_lex.specs.CommentText.{IsComment}
use Rattle.dps_lex.specs.LexemeText.{IsToken}
use Rattle.dps_lex.specs.Reading.{IsReading}
use Rattle.dps_lex.specs.declared.vocabulary.Token.{Token}
use Rattle.dps_lex.specs.declared.vocabulary.Fault.{Fault}

-- the tokens' spans are not empty and follow one another, between two offsets
abbrev pub AreInOrder : ℕ → ℕ → List Token → Type 0
AreInOrder from to [] = from ≤ to
AreInOrder from to (token ∷ tokens) = (from ≤ token.start) × (token.start < token.end) × AreInOrder token.end to tokens

-- the slice of the token's span is a text of its kind
abbrev pub IsSpelled : List ℕ → Token → Type 0
IsSpelled bytes token = IsToken token.kind (slice_range bytes token.start token.end)

-- each text has a reading
abbrev pub EachTextHasAReading : Type 0
EachTextHasAReading = (bytes : List ℕ) → (tokens : List Token) × ((stop : Option Fault) × IsReading bytes tokens stop)

-- no text has two: its tokens and its first fault are determined
abbrev pub NoTextHasTwoReadings : Type 0
NoTextHasTwoReadings = (bytes : List ℕ) (tokens others : List Token) (stop other : Option Fault) → IsReading bytes tokens stop → IsReading bytes others other → (tokens ≡ others) × (stop ≡ other)

-- the spans of a reading's tokens are in order and within the text, and each token's text is its slice
abbrev pub HasSpansInOrder : Type 0
HasSpansInOrder = (bytes : List ℕ) (tokens : List Token) (stop : Option Fault) → IsReading bytes tokens stop → AreInOrder 0 (length bytes) tokens × All (IsSpelled bytes) tokens

-- examples of comments, and of texts that are none
pub record HasCommentsAsExpected : Type 0 where
  pub empty : IsComment (codes "(**)")
  pub star : IsComment (codes "(***)")
  pub nested : IsComment (codes "(* a (* b *) c *)")
  pub shared_star : ¬ IsComment (codes "(*)")
  pub inner_only : ¬ IsComment (codes "(*(*)*)")
  pub closed_before : ¬ IsComment (codes "(**)*)")
