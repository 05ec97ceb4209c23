-- A lexeme is one token or one fault.
use Rattle.std.proofs.Common.{◌≡◌, ◌≢◌, ◌⊎◌, inl, inr, ℕ, ◌<◌, ◌≤◌, Bool, true, false, ◌==◌, if◌then◌else◌, nat_lt, List}
use Rattle.std.proofs.Common.{[], ◌∷◌, Option, Some, None, Result, Ok, Err, unwrap_or, length, refl, ap, sym, ◌∙◌, arith}
use Rattle.std.proofs.lemmas.Bool.Decides.{nat_tests}
use Rattle.std.proofs.lemmas.Slice.Eq.{bytes_eq-Decides}
use Rattle.std.specs.Str.{bytes_eq}
use Rattle.std.specs.Str.Parse.{digits_value}
use Rattle.dps_lex.specs.Spelling.{keyword, sign}
use Rattle.dps_lex.specs.LexemeText.{IsName, IsDigits, IsToken, IsFaulty, leads_with_zero}
use Rattle.dps_lex.specs.declared.vocabulary.TokenKind.{TokenKind}
use Rattle.dps_lex.specs.declared.vocabulary.TokenKind.TheVariants.{Free, Const, Fun, Reduc, Let, In, Out, If, Then, Else, New, Query, TraceEquiv, Private, OpenParenthesis}
use Rattle.dps_lex.specs.declared.vocabulary.TokenKind.TheVariants.{CloseParenthesis, OpenBracket, CloseBracket, Comma, Semicolon, Dot, Slash, Equals, Bar, Plus, Bang, Caret, Arrow, Identifier, Number}
use Rattle.dps_lex.specs.declared.vocabulary.FaultKind.{FaultKind}
use Rattle.dps_lex.specs.declared.vocabulary.FaultKind.TheVariants.{LongName, BadNumber, LargeNumber}
use Rattle.dps_lex.proofs.Nesting.{head_of, false_true}
use Rattle.dps_lex.proofs.Classes.{class, HasClass, name_class, digits_class, sign_class, sign_test, keyword_class, keyword_short, keyword_test}

-- the kinds with a fixed text
abbrev pub fixed_kinds : List TokenKind
fixed_kinds =
    Free ∷ Const ∷ Fun ∷ Reduc ∷ Let ∷ In ∷ Out ∷ If ∷ Then ∷ Else ∷ New ∷ Query ∷ TraceEquiv ∷ Private ∷ OpenParenthesis ∷ CloseParenthesis ∷ OpenBracket ∷ CloseBracket ∷ Comma ∷ Semicolon ∷
    Dot ∷ Slash ∷ Equals ∷ Bar ∷ Plus ∷ Bang ∷ Caret ∷ Arrow ∷ []

abbrev pub is_spelled : Option (List ℕ) → List ℕ → Bool
is_spelled None text = false
is_spelled (Some word) text = bytes_eq word text

-- the first of the kinds that has this text
abbrev pub find_in : (TokenKind → Option (List ℕ)) → List TokenKind → List ℕ → Option TokenKind
find_in spell [] text = None
find_in spell (kind ∷ kinds) text = if is_spelled (spell kind) text then Some kind else find_in spell kinds text

abbrev found : (TokenKind → Option (List ℕ)) → Option (List ℕ) → Option TokenKind
found spell None = None
found spell (Some text) = find_in spell fixed_kinds text

abbrev only : Option (List ℕ) → TokenKind → Option TokenKind
only None kind = None
only (Some text) kind = Some kind

keyword_tests : (kind : TokenKind) → found keyword (keyword kind) ≡ only (keyword kind) kind
keyword_tests Free = refl
keyword_tests _ = refl

sign_tests : (kind : TokenKind) → found sign (sign kind) ≡ only (sign kind) kind
sign_tests Free = refl
sign_tests _ = refl

pub keyword_found : (kind : TokenKind) (text : List ℕ) → keyword kind ≡ Some text → find_in keyword fixed_kinds text ≡ Some kind
keyword_found kind text e = ap (found keyword) (sym e) ∙ keyword_tests kind ∙ ap (λ o. only o kind) e

pub sign_found : (kind : TokenKind) (text : List ℕ) → sign kind ≡ Some text → find_in sign fixed_kinds text ≡ Some kind
sign_found kind text e = ap (found sign) (sym e) ∙ sign_tests kind ∙ ap (λ o. only o kind) e

spelled_is : (o : Option (List ℕ)) (text : List ℕ) → is_spelled o text ≡ true → o ≡ Some text
spelled_is None text h = false_true h
spelled_is (Some word) text h = ap Some ((bytes_eq-Decides word text).0 h)

pub bool_cases : (b : Bool) → (b ≡ true) ⊎ (b ≡ false)
bool_cases true = inl refl
bool_cases false = inr refl

-- a kind that is found has the text
pub found_is : (spell : TokenKind → Option (List ℕ)) (kinds : List TokenKind) (text : List ℕ) (kind : TokenKind) → find_in spell kinds text ≡ Some kind → spell kind ≡ Some text
found_is spell [] text kind h = absurd (cc)
found_is spell (first ∷ kinds) text kind h =
    elim (bool_cases (is_spelled (spell first) text)) [
      | inl same ↦
          let here : Some first ≡ Some kind = ap (λ b. if b then Some first else find_in spell kinds text) (sym same) ∙ h in
          ap spell (ap (λ o. unwrap_or o Identifier) (sym here)) ∙ spelled_is (spell first) text same
      | inr other ↦ found_is spell kinds text kind (ap (λ b. if b then Some first else find_in spell kinds text) (sym other) ∙ h)
    ]

none_found : (kinds : List TokenKind) (text : List ℕ) → ((kind : TokenKind) → keyword kind ≢ Some text) → find_in keyword kinds text ≡ None
none_found [] text h = refl
none_found (kind ∷ kinds) text h =
    elim (bool_cases (is_spelled (keyword kind) text)) [
      | inl same ↦ absurd (h kind (spelled_is (keyword kind) text same))
      | inr other ↦ ap (λ b. if b then Some kind else find_in keyword kinds text) other ∙ none_found kinds text h
    ]

-- what a lexeme is
pub data IsJudged : List ℕ → Result TokenKind FaultKind → Type 0 where
  identifier : {text : List ℕ} → IsName text → length text ≤ 64 → ((kind : TokenKind) → keyword kind ≢ Some text) → IsJudged text (Ok Identifier)
  number : {text : List ℕ} → IsDigits text → leads_with_zero text ≡ false → digits_value 10 text ≤ 1000000 → IsJudged text (Ok Number)
  word : {text : List ℕ} {kind : TokenKind} → keyword kind ≡ Some text → IsJudged text (Ok kind)
  mark : {text : List ℕ} {kind : TokenKind} → sign kind ≡ Some text → IsJudged text (Ok kind)
  long : {text : List ℕ} → IsName text → 64 < length text → IsJudged text (Err LongName)
  bad : {text : List ℕ} → IsDigits text → leads_with_zero text ≡ true → IsJudged text (Err BadNumber)
  large : {text : List ℕ} → IsDigits text → leads_with_zero text ≡ false → 1000000 < digits_value 10 text → IsJudged text (Err LargeNumber)

pub token_judged : (kind : TokenKind) (text : List ℕ) → IsToken kind text → IsJudged text (Ok kind)
token_judged Identifier text h = identifier h.0 h.1 h.2
token_judged Number text h = number h.0 h.1 h.2
token_judged kind text h = elim h [ inl e ↦ word e | inr e ↦ mark e ]

pub faulty_judged : (kind : FaultKind) (text : List ℕ) → IsFaulty kind text → IsJudged text (Err kind)
faulty_judged LongName text h = long h.0 h.1
faulty_judged BadNumber text h = bad h.0 h.1
faulty_judged LargeNumber text h = large h.0 h.1 h.2
faulty_judged _ text h = absurd h

-- the judgement, computed
abbrev named : List ℕ → Result TokenKind FaultKind
named text = if nat_lt 64 (length text) then Err LongName else Ok (unwrap_or (find_in keyword fixed_kinds text) Identifier)

abbrev numbered : List ℕ → Result TokenKind FaultKind
numbered text = if leads_with_zero text then Err BadNumber else (if nat_lt 1000000 (digits_value 10 text) then Err LargeNumber else Ok Number)

abbrev verdict : List ℕ → Result TokenKind FaultKind
verdict text = if class (head_of text) == 0 then named text else (if class (head_of text) == 1 then numbered text else Ok (unwrap_or (find_in sign fixed_kinds text) Identifier))

of_name : (text : List ℕ) → HasClass text 0 → verdict text ≡ named text
of_name text h = ap (λ n. if n == 0 then named text else (if n == 1 then numbered text else Ok (unwrap_or (find_in sign fixed_kinds text) Identifier))) h.class

of_digits : (text : List ℕ) → HasClass text 1 → verdict text ≡ numbered text
of_digits text h = ap (λ n. if n == 0 then named text else (if n == 1 then numbered text else Ok (unwrap_or (find_in sign fixed_kinds text) Identifier))) h.class

of_sign : (text : List ℕ) → HasClass text 3 → verdict text ≡ Ok (unwrap_or (find_in sign fixed_kinds text) Identifier)
of_sign text h = ap (λ n. if n == 0 then named text else (if n == 1 then numbered text else Ok (unwrap_or (find_in sign fixed_kinds text) Identifier))) h.class

not_above : (n m : ℕ) → m ≤ n → nat_lt n m ≡ false
not_above n m h = grind (arith, nat_tests)

above : (n m : ℕ) → n < m → nat_lt n m ≡ true
above n m h = grind (arith, nat_tests)

short_name : (text : List ℕ) (kind : Option TokenKind) → length text ≤ 64 → find_in keyword fixed_kinds text ≡ kind → named text ≡ Ok (unwrap_or kind Identifier)
short_name text kind l e =
    ap (λ b. if b then Err LongName else Ok (unwrap_or (find_in keyword fixed_kinds text) Identifier)) (not_above 64 (length text) l) ∙ ap (λ o. Ok (unwrap_or o Identifier)) e

verdict_is : {text : List ℕ} {r : Result TokenKind FaultKind} → IsJudged text r → verdict text ≡ r
verdict_is (identifier {text} n l h) = of_name text (name_class text n) ∙ short_name text None l (none_found fixed_kinds text h)
verdict_is (number {text} d z v) =
    of_digits text (digits_class text d) ∙ ap (λ b. if b then Err BadNumber else (if nat_lt 1000000 (digits_value 10 text) then Err LargeNumber else Ok Number)) z
    ∙ ap (λ b. if b then Err LargeNumber else Ok Number) (not_above 1000000 (digits_value 10 text) v)
verdict_is (word {text} {kind} e) =
    let test = keyword_test kind text e in
    of_name text (keyword_class text test) ∙ short_name text (Some kind) (keyword_short text test) (keyword_found kind text e)
verdict_is (mark {text} {kind} e) =
    of_sign text (sign_class text (sign_test kind text e)) ∙ ap (λ o. Ok (unwrap_or o Identifier)) (sign_found kind text e)
verdict_is (long {text} n l) =
    of_name text (name_class text n) ∙ ap (λ b. if b then Err LongName else Ok (unwrap_or (find_in keyword fixed_kinds text) Identifier)) (above 64 (length text) l)
verdict_is (bad {text} d z) =
    of_digits text (digits_class text d) ∙ ap (λ b. if b then Err BadNumber else (if nat_lt 1000000 (digits_value 10 text) then Err LargeNumber else Ok Number)) z
verdict_is (large {text} d z v) =
    of_digits text (digits_class text d) ∙ ap (λ b. if b then Err BadNumber else (if nat_lt 1000000 (digits_value 10 text) then Err LargeNumber else Ok Number)) z
    ∙ ap (λ b. if b then Err LargeNumber else Ok Number) (above 1000000 (digits_value 10 text) v)

pub judged_same : {text : List ℕ} {r s : Result TokenKind FaultKind} → IsJudged text r → IsJudged text s → r ≡ s
judged_same j k = sym (verdict_is j) ∙ verdict_is k
