-- The scan of a text.
use Rattle.std.proofs.Common.{◌≡◌, ℕ, ◌+◌, ◌-◌, ◌<◌, ◌≤◌, zero, suc, Bool, true, ◌==◌, not, List, [], ◌∷◌, ◌++◌, Option}
use Rattle.std.proofs.Common.{Some, None, length, get_or, take, drop, reverse, refl, ap, sym, ◌∙◌, subst, arith, append_assoc, length-drop, slice_range, cond}
use Rattle.std.proofs.lemmas.List.{append-nil, drop_more, drop-drop, take-take, drop-take, take-append-drop, length-take-le, reverse-append, drop_all}
use Rattle.std.proofs.lemmas.List.Sums.{sum_by_push}
use Rattle.std.proofs.lemmas.Bool.Decides.{nat_tests}
use Rattle.std.specs.List.{prefix_len, suffix_len, AllPass}
use Rattle.dps_lex.specs.Alphabet.{newline, is_blank, is_digit, is_name_byte}
use Rattle.dps_lex.specs.LexemeText.{IsLexeme, name, digits, sign_of}
use Rattle.dps_lex.specs.Reading.{line_behind, column_behind, blank, comment, BeginsFault, token_at, fault_at, Reads, end, gap, token, fault, IsReading}
use Rattle.dps_lex.specs.Scanning.{IsPosition, IsCommentTo, IsGapTo, BeginsToken}
use Rattle.dps_lex.specs.declared.vocabulary.TokenKind.{TokenKind}
use Rattle.dps_lex.specs.declared.vocabulary.Token.{Token}
use Rattle.dps_lex.specs.declared.vocabulary.FaultKind.{FaultKind}
use Rattle.dps_lex.specs.declared.vocabulary.Fault.{Fault}
use Rattle.dps_lex.specs.declared.position.Position.{Position}
use Rattle.dps_lex.proofs.Nesting.{false_true}
use Rattle.dps_lex.proofs.Classes.{is_sign_text, sign_test}
use Rattle.dps_lex.proofs.Fronts.{name_passes, digits_pass}

-- the text between an offset and one further on
pub split_rest : (bytes : List ℕ) (at n : ℕ) → drop at bytes ≡ take n (drop at bytes) ++ drop (at + n) bytes
split_rest bytes at n = sym (take-append-drop n (drop at bytes)) ∙ ap (λ z. take n (drop at bytes) ++ z) (drop-drop n at bytes)

pub split_front : (bytes : List ℕ) (at n : ℕ) → take (at + n) bytes ≡ take at bytes ++ take n (drop at bytes)
split_front bytes at n =
    sym (take-append-drop at (take (at + n) bytes))
    ∙ ap (λ z. z ++ drop at (take (at + n) bytes)) (take-take at (at + n) bytes (omega arith))
    ∙ ap (λ z. take at bytes ++ z) (drop-take at n bytes)

-- a blank here
pub gap_blank : (bytes : List ℕ) (at : ℕ) (to : Position) → at < length bytes → is_blank (get_or bytes at 0) ≡ true → IsPosition bytes to → to.at ≡ at + 1 → IsGapTo bytes at to
gap_blank bytes at to h b p e =
    let one : to.at - at ≡ 1 = omega arith in
    let text : slice_range bytes at to.at ≡ get_or bytes at 0 ∷ [] = ap (λ n. take n (drop at bytes)) one ∙ ap (take 1) (drop_more bytes at 0 h) in
    record { position = p; on = omega arith; gap = blank text b }

pub gap_comment : (bytes : List ℕ) (at : ℕ) (to : Position) → IsCommentTo bytes at to → IsGapTo bytes at to
gap_comment bytes at to c = record { position = c.position; on = c.on; gap = comment c.comment }

pub ruleset for_next_piece = (gap_blank, gap_comment)

-- no lexeme holds a newline
abbrev not_newline : ℕ → Bool
not_newline b = not (b == newline)

name_byte_stays : (b : ℕ) → is_name_byte b ≡ true → not_newline b ≡ true
name_byte_stays b h = grind (arith, nat_tests)

digit_stays : (b : ℕ) → is_digit b ≡ true → not_newline b ≡ true
digit_stays b h = grind (arith, nat_tests)

sign_stays : (text : List ℕ) → is_sign_text text ≡ true → AllPass not_newline text
sign_stays [] h k d l = absurd (omega arith)
sign_stays (a ∷ []) h zero d l = grind (arith, nat_tests)
sign_stays (a ∷ []) h (suc k) d l = absurd (omega arith)
sign_stays (a ∷ b ∷ []) h zero d l = grind (arith, nat_tests)
sign_stays (a ∷ b ∷ []) h (suc zero) d l = grind (arith, nat_tests)
sign_stays (a ∷ b ∷ []) h (suc (suc k)) d l = absurd (omega arith)
sign_stays (a ∷ b ∷ c ∷ bs) h k d l = false_true h

lexeme_stays : {text : List ℕ} → IsLexeme text → AllPass not_newline text
lexeme_stays (name {text} h) k d l = name_byte_stays _ (name_passes text h k d l)
lexeme_stays (digits {text} h) k d l = digit_stays _ (digits_pass text h k d l)
lexeme_stays (sign_of {text} kind h) k d l = sign_stays text (sign_test kind text h) k d l

-- one more byte of the line
column_push : (before : List ℕ) (b : ℕ) → not_newline b ≡ true → column_behind (before ++ b ∷ []) ≡ column_behind before + 1
column_push before b h =
    let turned : reverse (before ++ b ∷ []) ≡ b ∷ reverse before = reverse-append before (b ∷ []) in
    let longer : suffix_len not_newline (before ++ b ∷ []) ≡ 1 + suffix_len not_newline before = ap (prefix_len not_newline) turned ∙ rw h refl in
    omega (arith, longer)

line_push : (before : List ℕ) (b : ℕ) → not_newline b ≡ true → line_behind (before ++ b ∷ []) ≡ line_behind before
line_push before b h =
    let counted : ℕ → ℕ = λ x. cond (x == newline) 1 0 in
    let none : counted b ≡ 0 = grind (arith, nat_tests) in
    omega (arith, sum_by_push counted before b, none)

-- more bytes of the line
pub column_append : (before text : List ℕ) → AllPass not_newline text → column_behind (before ++ text) ≡ column_behind before + length text
column_append before [] all = ap column_behind (append-nil before) ∙ omega arith
column_append before (b ∷ bs) all =
    let later = column_append (before ++ b ∷ []) bs (λ k d l. all (suc k) d (omega arith)) in
    omega (arith, ap column_behind (append_assoc before (b ∷ []) bs), later, column_push before b (all 0 0 (omega arith)))

pub line_append : (before text : List ℕ) → AllPass not_newline text → line_behind (before ++ text) ≡ line_behind before
line_append before [] all = ap line_behind (append-nil before)
line_append before (b ∷ bs) all =
    sym (ap line_behind (append_assoc before (b ∷ []) bs)) ∙ line_append (before ++ b ∷ []) bs (λ k d l. all (suc k) d (omega arith)) ∙ line_push before b (all 0 0 (omega arith))

pub past_token :
    (bytes : List ℕ) (kind : TokenKind) (n : ℕ) (here there : Position) → IsPosition bytes here → BeginsToken (drop here.at bytes) kind n
    → there.at ≡ here.at + n → there.line ≡ here.line → there.line_start ≡ here.line_start → IsPosition bytes there
past_token bytes kind n here there p t a l s =
    let before = take here.at bytes in
    let text = take n (drop here.at bytes) in
    let stays = lexeme_stays t.first.lexeme in
    let front : take there.at bytes ≡ before ++ text = ap (λ m. take m bytes) a ∙ split_front bytes here.at n in
    let long : length text ≡ n = length-take-le n (drop here.at bytes) t.within in
    record {
      within = omega (arith, t.within, length-drop here.at bytes, p.within);
      line = l ∙ p.line ∙ sym (ap line_behind front ∙ line_append before text stays);
      column = omega (arith, p.column, ap column_behind front, column_append before text stays);
    }

-- Up to here the text holds these tokens.
pub record IsScanned (bytes : List ℕ) (at : ℕ) (tokens : List Token) : Type 0 where
  pub on : (more : List Token) (stop : Option Fault) → Reads (take at bytes) (drop at bytes) more stop → Reads [] bytes (tokens ++ more) stop

pub scanned_first : (bytes : List ℕ) → IsScanned bytes 0 []
scanned_first bytes = record { on = λ more stop r. r }

pub scanned_gap : (bytes : List ℕ) (at : ℕ) (to : Position) (tokens : List Token) → IsGapTo bytes at to → IsScanned bytes at tokens → IsScanned bytes to.at tokens
scanned_gap bytes at to tokens g s =
    let n = to.at - at in
    let sum : at + n ≡ to.at = omega (arith, g.on) in
    let text = slice_range bytes at to.at in
    let rest : drop at bytes ≡ text ++ drop to.at bytes = split_rest bytes at n ∙ ap (λ m. text ++ drop m bytes) sum in
    let front : take to.at bytes ≡ take at bytes ++ text = ap (λ m. take m bytes) (sym sum) ∙ split_front bytes at n in
    record { on = λ more stop r. s.on more stop (gap rest g.gap (subst (λ z. Reads z (drop to.at bytes) more stop) front r)) }

token_of_parts : (one two : Token) → one.kind ≡ two.kind → one.start ≡ two.start → one.end ≡ two.end → one.line ≡ two.line → one.column ≡ two.column → one ≡ two
token_of_parts one two k s e l c =
    let made : TokenKind → ℕ → ℕ → ℕ → ℕ → Token = λ kind start end line column. record { kind = kind; start = start; end = end; line = line; column = column } in
    ap (λ z. made z one.start one.end one.line one.column) k ∙ ap (λ z. made two.kind z one.end one.line one.column) s ∙ ap (λ z. made two.kind two.start z one.line one.column) e
    ∙ ap (λ z. made two.kind two.start two.end z one.column) l ∙ ap (λ z. made two.kind two.start two.end two.line z) c

pub scanned_token :
    (bytes : List ℕ) (here : Position) (kind : TokenKind) (n to : ℕ) (one : Token) (tokens after : List Token) → IsPosition bytes here
    → BeginsToken (drop here.at bytes) kind n → one.kind ≡ kind → one.start ≡ here.at → one.end ≡ here.at + n → one.line ≡ here.line
    → here.line_start + one.column ≡ here.at + 1 → to ≡ here.at + n → after ≡ tokens ++ one ∷ [] → IsScanned bytes here.at tokens → IsScanned bytes to after
scanned_token bytes here kind n to one tokens after p t k a b l c sum e s =
    let before = take here.at bytes in
    let text = take n (drop here.at bytes) in
    let long : length text ≡ n = length-take-le n (drop here.at bytes) t.within in
    let start : length before ≡ here.at = length-take-le here.at bytes p.within in
    let same : one ≡ token_at before kind text = token_of_parts one (token_at before kind text) k (a ∙ sym start) (omega (arith, b, start, long)) (l ∙ p.line) (omega (arith, c, p.column)) in
    let rest : drop here.at bytes ≡ text ++ drop to bytes = split_rest bytes here.at n ∙ ap (λ m. text ++ drop m bytes) (sym sum) in
    let front : take to bytes ≡ before ++ text = ap (λ m. take m bytes) sum ∙ split_front bytes here.at n in
    let whole : after ≡ tokens ++ token_at before kind text ∷ [] = e ∙ ap (λ z. tokens ++ z ∷ []) same in
    record {
      on = λ more stop r.
          subst (λ ts. Reads [] bytes ts stop) (sym (ap (λ ts. ts ++ more) whole ∙ append_assoc tokens (token_at before kind text ∷ []) more))
          (s.on (token_at before kind text ∷ more) stop (token rest t.first t.token (subst (λ z. Reads z (drop to bytes) more stop) front r)));
    }

pub scanned_fault :
    (bytes : List ℕ) (here : Position) (kind : FaultKind) (one : Fault) (tokens : List Token) → IsPosition bytes here → BeginsFault kind (drop here.at bytes)
    → one.kind ≡ kind → one.line ≡ here.line → here.line_start + one.column ≡ here.at + 1 → IsScanned bytes here.at tokens → IsReading bytes tokens (Some one)
scanned_fault bytes here kind one tokens p f k l c s =
    let before = take here.at bytes in
    let made : ℕ → ℕ → FaultKind → Fault = λ line column kind. record { line = line; column = column; kind = kind } in
    let place : one.column ≡ column_behind before = omega (arith, c, p.column) in
    let same : one ≡ fault_at before kind = ap (λ z. made z one.column one.kind) (l ∙ p.line) ∙ ap (λ z. made (line_behind before) z one.kind) place
    ∙ ap (λ z. made (line_behind before) (column_behind before) z) k in
    subst (λ z. Reads [] bytes tokens (Some z)) (sym same) (subst (λ ts. Reads [] bytes ts (Some (fault_at before kind))) (append-nil tokens) (s.on [] (Some (fault_at before kind)) (fault f)))

pub scanned_end : (bytes : List ℕ) (at : ℕ) (tokens : List Token) → length bytes ≤ at → IsScanned bytes at tokens → IsReading bytes tokens None
scanned_end bytes at tokens h s =
    subst (λ ts. Reads [] bytes ts None) (append-nil tokens) (s.on [] None (subst (λ z. Reads (take at bytes) z [] None) (sym (drop_all at bytes h)) end))

pub ruleset for_scan = (scanned_first, scanned_gap, scanned_token, scanned_fault, scanned_end)
