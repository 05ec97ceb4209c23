-- Each text has a reading.
use Rattle.std.proofs.Common.{◌≡◌, ◌⊎◌, inl, inr, ℕ, ◌<◌, ◌≤◌, zero, suc, Bool, true, false, ◌&&◌, ◌||◌, ◌==◌, List}
use Rattle.std.proofs.Common.{[], ◌∷◌, ◌++◌, Option, Some, None, length, take, drop, get_or, refl, ap, sym, ◌∙◌, subst, arith, length-append}
use Rattle.std.proofs.lemmas.List.{take-append-drop}
use Rattle.std.proofs.lemmas.Bool.{cases_lt}
use Rattle.std.proofs.lemmas.Bool.Decides.{nat_tests}
use Rattle.std.specs.List.{prefix_len}
use Rattle.std.specs.Str.Parse.{digits_value}
use Rattle.dps_lex.specs.Alphabet.{is_blank, is_letter, is_digit, is_name_byte}
use Rattle.dps_lex.specs.Spelling.{keyword, sign}
use Rattle.dps_lex.specs.CommentText.{opening, begins_mark}
use Rattle.dps_lex.specs.LexemeText.{leads_with_zero}
use Rattle.dps_lex.specs.Reading.{BeginsWith, IsGap, blank, comment, BeginsFault, Reads, end, gap, token, fault, token_at, fault_at}
use Rattle.dps_lex.specs.LawsOfReading.{EachTextHasAReading}
use Rattle.dps_lex.specs.Scanning.{IsNamed, starts_arrow, BeginsToken}
use Rattle.dps_lex.specs.declared.vocabulary.TokenKind.{TokenKind}
use Rattle.dps_lex.specs.declared.vocabulary.TokenKind.TheVariants.{Identifier, Number, Arrow}
use Rattle.dps_lex.specs.declared.vocabulary.Token.{Token}
use Rattle.dps_lex.specs.declared.vocabulary.FaultKind.{FaultKind}
use Rattle.dps_lex.specs.declared.vocabulary.FaultKind.TheVariants.{BadByte, OpenComment, LongName, BadNumber, LargeNumber}
use Rattle.dps_lex.specs.declared.vocabulary.Fault.{Fault}
use Rattle.dps_lex.proofs.Nesting.{Closes, none, more, tail_of, false_true, other_on, other_back, open_on, open_back, close_on, close_back, none_closes}
use Rattle.dps_lex.proofs.Comments.{last_of}
use Rattle.dps_lex.proofs.Classes.{lexeme_long}
use Rattle.dps_lex.proofs.Fronts.{name_token, name_fault, number_token, bad_number, large_number, byte_token, arrow_token, bad_byte}
use Rattle.dps_lex.proofs.Judgement.{bool_cases, find_in, fixed_kinds, keyword_found, sign_found, found_is}

-- two bytes close, open or do neither
data IsMark (a b : ℕ) : Type 0 where
  closes : a ≡ 42 → b ≡ 41 → IsMark a b
  opens : a ≡ 40 → b ≡ 42 → IsMark a b
  plain : begins_mark (a ∷ b ∷ []) ≡ false → IsMark a b

mark_of : (a b : ℕ) → IsMark a b
mark_of a b =
    elim (bool_cases (a == 42 && b == 41)) [
      | inl h ↦ closes (grind (arith, nat_tests)) (grind (arith, nat_tests))
      | inr h ↦ elim (bool_cases (a == 40 && b == 42)) [
        | inl k ↦ opens (grind (arith, nat_tests)) (grind (arith, nat_tests))
        | inr k ↦ plain (ap (λ t. t || (a == 42 && b == 41)) k ∙ h)
      ]
    ]

-- so many comments end, or some is open
data IsDecided (k : ℕ) (bytes : List ℕ) : Type 0 where
  ends : (after : List ℕ) → Closes (suc k) bytes after → IsDecided k bytes
  stays : ((after : List ℕ) → Closes (suc k) bytes after → ⊥) → IsDecided k bytes

after_close : (k : ℕ) (bs : List ℕ) → IsDecided k bs → IsDecided (suc k) (42 ∷ 41 ∷ bs)
after_close k bs (ends after c) = ends after (close_on bs after c)
after_close k bs (stays never) = stays (λ after c. never after (close_back bs after c))

after_open : (k : ℕ) (bs : List ℕ) → IsDecided (suc k) bs → IsDecided k (40 ∷ 42 ∷ bs)
after_open k bs (ends after c) = ends after (open_on bs after c)
after_open k bs (stays never) = stays (λ after c. never after (open_back bs after c))

after_plain : (k b : ℕ) (bs : List ℕ) → begins_mark (b ∷ bs) ≡ false → IsDecided k bs → IsDecided k (b ∷ bs)
after_plain k b bs m (ends after c) = ends after (other_on b bs after m c)
after_plain k b bs m (stays never) = stays (λ after c. never after (other_back b bs after m c))

decided : (n k : ℕ) (bytes : List ℕ) → length bytes ≤ n → IsDecided k bytes
decided n k [] h = stays (λ after c. none_closes [] after (omega arith) c)
decided n k (a ∷ []) h = stays (λ after c. none_closes (a ∷ []) after (omega arith) c)
decided zero k (a ∷ b ∷ bs) h = absurd (omega arith)
decided (suc n) zero (a ∷ b ∷ bs) h =
    elim (mark_of a b) [
      | closes e f ↦ subst (λ z. IsDecided zero (z ∷ b ∷ bs)) (sym e) (subst (λ z. IsDecided zero (42 ∷ z ∷ bs)) (sym f) (ends bs (close_on bs bs (none refl))))
      | opens e f ↦ subst (λ z. IsDecided zero (z ∷ b ∷ bs)) (sym e) (subst (λ z. IsDecided zero (40 ∷ z ∷ bs)) (sym f) (after_open zero bs (decided n (suc zero) bs (omega arith))))
      | plain m ↦ after_plain zero a (b ∷ bs) m (decided n zero (b ∷ bs) (omega arith))
    ]
decided (suc n) (suc k) (a ∷ b ∷ bs) h =
    elim (mark_of a b) [
      | closes e f ↦ subst (λ z. IsDecided (suc k) (z ∷ b ∷ bs)) (sym e) (subst (λ z. IsDecided (suc k) (42 ∷ z ∷ bs)) (sym f) (after_close k bs (decided n k bs (omega arith))))
      | opens e f ↦ subst (λ z. IsDecided (suc k) (z ∷ b ∷ bs)) (sym e) (subst (λ z. IsDecided (suc k) (40 ∷ z ∷ bs)) (sym f) (after_open (suc k) bs (decided n (suc (suc k)) bs (omega arith))))
      | plain m ↦ after_plain (suc k) a (b ∷ bs) m (decided n (suc k) (b ∷ bs) (omega arith))
    ]

-- what stands at the front
data HasPiece (bytes : List ℕ) : Type 0 where
  a_gap : (text after : List ℕ) → bytes ≡ text ++ after → IsGap text → HasPiece bytes
  a_token : (kind : TokenKind) (n : ℕ) → BeginsToken bytes kind n → HasPiece bytes
  a_fault : (kind : FaultKind) → BeginsFault kind bytes → HasPiece bytes

piece_of_opening : (rest : List ℕ) → IsDecided zero rest → HasPiece (opening ++ rest)
piece_of_opening rest (ends after c) =
    let last = last_of c in
    a_gap (opening ++ last.inside) after (ap (λ z. opening ++ z) last.is) (comment (last.inside, refl, last.whole))
piece_of_opening rest (stays never) =
    a_fault OpenComment (
      (rest, refl),
      λ text front whole. (
          let all : rest ≡ whole.0 ++ front.0 = ap tail_of (ap tail_of (front.1 ∙ ap (λ z. z ++ front.0) whole.1)) in
          never front.0 (more all whole.2 (none refl))),
    )

-- the kind of a name
record HasName (text : List ℕ) : Type 0 where
  kind : TokenKind
  named : IsNamed kind text

named_of : (kind : TokenKind) (text : List ℕ) → keyword kind ≡ Some text → IsNamed kind text
named_of Identifier text h = absurd (cc)
named_of kind text h = h

some_none : {A : Type 0} (kind : TokenKind) → Some kind ≡ None → A
some_none kind h = absurd (cc)

option_cases : (o : Option TokenKind) → (o ≡ None) ⊎ ((kind : TokenKind) × (o ≡ Some kind))
option_cases None = inl refl
option_cases (Some kind) = inr (kind, refl)

name_of : (text : List ℕ) → HasName text
name_of text =
    elim (option_cases (find_in keyword fixed_kinds text)) [
      | inl h ↦ record { kind = Identifier; named = λ kind e. some_none kind (sym (keyword_found kind text e) ∙ h) }
      | inr h ↦ record { kind = h.0; named = named_of h.0 text (found_is keyword fixed_kinds text h.0 h.1) }
    ]

piece_of_name : (bytes : List ℕ) → 0 < length bytes → is_letter (get_or bytes 0 0) ≡ true → HasPiece bytes
piece_of_name bytes some h =
    let n = prefix_len is_name_byte bytes in
    elim (cases_lt 64 n) [
      | inl more_bytes ↦ a_fault LongName (name_fault bytes n some h refl more_bytes)
      | inr short ↦
          let name = name_of (take n bytes) in
          a_token name.kind n (name_token bytes (take n bytes) name.kind n some h refl short refl name.named)
    ]

piece_of_number : (bytes : List ℕ) → 0 < length bytes → is_digit (get_or bytes 0 0) ≡ true → HasPiece bytes
piece_of_number bytes some h =
    let n = prefix_len is_digit bytes in
    let text = take n bytes in
    elim (bool_cases (leads_with_zero text)) [
      | inl leads ↦ a_fault BadNumber (bad_number bytes text n some h refl refl leads)
      | inr right ↦ elim (cases_lt 1000000 (digits_value 10 text)) [
        | inl large ↦ a_fault LargeNumber (large_number bytes text n some h refl refl right large)
        | inr small ↦ a_token Number n (number_token bytes text n some h refl refl right small)
      ]
    ]

piece_of_sign :
    (bytes : List ℕ) → 0 < length bytes → is_blank (get_or bytes 0 0) ≡ false → is_letter (get_or bytes 0 0) ≡ false → is_digit (get_or bytes 0 0) ≡ false
    → ¬ BeginsWith opening bytes → HasPiece bytes
piece_of_sign bytes some w l d never =
    let one = get_or bytes 0 0 ∷ [] in
    elim (bool_cases (starts_arrow bytes)) [
      | inl arrow ↦ a_token Arrow 2 (arrow_token bytes never arrow)
      | inr no_arrow ↦ elim (option_cases (find_in sign fixed_kinds one)) [
        | inl h ↦ a_fault BadByte (bad_byte bytes some w l d never no_arrow (record { none = λ kind e. some_none kind (sym (sign_found kind one e) ∙ h) }))
        | inr h ↦ a_token h.0 1 (byte_token bytes h.0 some never (found_is sign fixed_kinds one h.0 h.1))
      ]
    ]

piece_of_lexeme : (bytes : List ℕ) → 0 < length bytes → is_blank (get_or bytes 0 0) ≡ false → ¬ BeginsWith opening bytes → HasPiece bytes
piece_of_lexeme bytes some w never =
    elim (bool_cases (is_letter (get_or bytes 0 0))) [
      | inl l ↦ piece_of_name bytes some l
      | inr l ↦ elim (bool_cases (is_digit (get_or bytes 0 0))) [
        | inl d ↦ piece_of_number bytes some d
        | inr d ↦ piece_of_sign bytes some w l d never
      ]
    ]

-- `(*` is at the front, or is not
data IsOpening (bytes : List ℕ) : Type 0 where
  opens_here : (rest : List ℕ) → bytes ≡ opening ++ rest → IsOpening bytes
  opens_not : ¬ BeginsWith opening bytes → IsOpening bytes

opening_of : (bytes : List ℕ) → IsOpening bytes
opening_of [] = opens_not (λ b. omega (arith, ap length b.1))
opening_of (a ∷ []) = opens_not (λ b. omega (arith, ap length b.1))
opening_of (a ∷ b ∷ bs) =
    elim (bool_cases (a == 40 && b == 42)) [
      | inl h ↦
          let first : a ≡ 40 = grind (arith, nat_tests) in
          let second : b ≡ 42 = grind (arith, nat_tests) in
          opens_here bs (ap (λ z. z ∷ b ∷ bs) first ∙ ap (λ z. 40 ∷ z ∷ bs) second)
      | inr h ↦ opens_not (λ front. false_true (sym h ∙ ap starts front.1))
    ]
  where
    starts : List ℕ → Bool
    starts (c ∷ d ∷ ds) = c == 40 && d == 42
    starts _ = false

piece_of : (b : ℕ) (bs : List ℕ) → HasPiece (b ∷ bs)
piece_of b bs =
    elim (bool_cases (is_blank b)) [
      | inl w ↦ a_gap (b ∷ []) bs refl (blank refl w)
      | inr w ↦ elim (opening_of (b ∷ bs)) [
        | opens_here rest e ↦ subst HasPiece (sym e) (piece_of_opening rest (decided (length rest) zero rest (omega arith)))
        | opens_not never ↦ piece_of_lexeme (b ∷ bs) (omega arith) w never
      ]
    ]

-- tokens up to an end
record HasReading (before rest : List ℕ) : Type 0 where
  tokens : List Token
  stop : Option Fault
  reads : Reads before rest tokens stop

gap_long : {text : List ℕ} → IsGap text → 0 < length text
gap_long (blank t h) = omega (arith, ap length t)
gap_long (comment c) = omega (arith, ap length c.1)

reading_of : (n : ℕ) (before rest : List ℕ) → length rest ≤ n → HasReading before rest
reading_of n before [] h = record { tokens = []; stop = None; reads = end }
reading_of zero before (b ∷ bs) h = absurd (omega arith)
reading_of (suc n) before (b ∷ bs) h =
    elim (piece_of b bs) [
      | a_gap text after e g ↦
          let later = reading_of n (before ++ text) after (omega (arith, h, ap length e, length-append text after, gap_long g)) in
          record { tokens = later.tokens; stop = later.stop; reads = gap e g later.reads }
      | a_token kind m t ↦
          let text = take m (b ∷ bs) in
          let after = drop m (b ∷ bs) in
          let e : b ∷ bs ≡ text ++ after = sym (take-append-drop m (b ∷ bs)) in
          let later = reading_of n (before ++ text) after (omega (arith, h, ap length e, length-append text after, lexeme_long t.first.lexeme)) in
          record { tokens = token_at before kind text ∷ later.tokens; stop = later.stop; reads = token e t.first t.token later.reads }
      | a_fault kind f ↦ record { tokens = []; stop = Some (fault_at before kind); reads = fault f }
    ]

pub some_reading : EachTextHasAReading
some_reading bytes = let reading = reading_of (length bytes) [] bytes (omega arith) in (reading.tokens, (reading.stop, reading.reads))
