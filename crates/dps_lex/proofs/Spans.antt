-- The spans of a reading's tokens.
use Rattle.std.proofs.Common.{◌≡◌, ℕ, ◌+◌, ◌-◌, ◌≤◌, List, [], ◌∷◌, ◌++◌, Option, length, take, All, refl, ap, sym, ◌∙◌, subst, arith, append_assoc, length-append, slice_range}
use Rattle.std.proofs.lemmas.List.{take_at, drop_at}
use Rattle.std.proofs.lemmas.List.Elements.{All-cons}
use Rattle.dps_lex.specs.LexemeText.{IsToken}
use Rattle.dps_lex.specs.Reading.{token_at, Reads, end, gap, token, fault}
use Rattle.dps_lex.specs.LawsOfReading.{AreInOrder, IsSpelled, HasSpansInOrder}
use Rattle.dps_lex.specs.declared.vocabulary.Token.{Token}
use Rattle.dps_lex.specs.declared.vocabulary.Fault.{Fault}
use Rattle.dps_lex.proofs.Classes.{lexeme_long}

from_earlier : (first from to : ℕ) (tokens : List Token) → first ≤ from → AreInOrder from to tokens → AreInOrder first to tokens
from_earlier first from to [] l h = omega arith
from_earlier first from to (t ∷ ts) l h = (omega (arith, h.0), h.1, h.2)

in_order : {before rest : List ℕ} {tokens : List Token} {stop : Option Fault} → Reads before rest tokens stop → AreInOrder (length before) (length (before ++ rest)) tokens
in_order (end {before}) = omega (arith, length-append before [])
in_order (gap {before} {rest} {text} {after} {tokens} e g r) =
    let whole : before ++ text ++ after ≡ before ++ rest = append_assoc before text after ∙ ap (λ z. before ++ z) (sym e) in
    from_earlier (length before) (length (before ++ text)) (length (before ++ rest)) tokens (omega (arith, length-append before text))
    (subst (λ z. AreInOrder (length (before ++ text)) (length z) tokens) whole (in_order r))
in_order (token {before} {rest} {text} {after} {kind} {tokens} e f t r) =
    let whole : before ++ text ++ after ≡ before ++ rest = append_assoc before text after ∙ ap (λ z. before ++ z) (sym e) in (
      omega arith,
      omega (arith, lexeme_long f.lexeme),
      subst (λ n. AreInOrder n (length (before ++ rest)) tokens) (length-append before text)
          (subst (λ z. AreInOrder (length (before ++ text)) (length z) tokens) whole (in_order r)),
    )
in_order (fault {before} {rest} f) = omega (arith, length-append before rest)

spelled : {before rest : List ℕ} {tokens : List Token} {stop : Option Fault} → Reads before rest tokens stop → All (IsSpelled (before ++ rest)) tokens
spelled end = λ k d l. absurd (omega arith)
spelled (gap {before} {rest} {text} {after} {tokens} e g r) =
    subst (λ z. All (IsSpelled z) tokens) (append_assoc before text after ∙ ap (λ z. before ++ z) (sym e)) (spelled r)
spelled (token {before} {rest} {text} {after} {kind} {tokens} e f t r) =
    let whole : before ++ text ++ after ≡ before ++ rest = append_assoc before text after ∙ ap (λ z. before ++ z) (sym e) in
    let len : length before + length text - length before ≡ length text = omega arith in
    let slice : slice_range (before ++ rest) (length before) (length before + length text) ≡ text =
    ap (λ z. take (length before + length text - length before) z) (drop_at before rest (length before) refl) ∙ ap (λ n. take n rest) len ∙ ap (take (length text)) e
    ∙ take_at text after (length text) refl in
    All-cons (IsSpelled (before ++ rest)) (token_at before kind text) tokens (subst (λ z. IsToken kind z) (sym slice) t)
    (subst (λ z. All (IsSpelled z) tokens) whole (spelled r))
spelled (fault f) = λ k d l. absurd (omega arith)

pub spans : HasSpansInOrder
spans bytes tokens stop r = (in_order r, spelled r)
