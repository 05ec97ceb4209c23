-- A text has at most one reading.
use Rattle.std.proofs.Common.{◌≡◌, ◌≢◌, ℕ, ◌<◌, List, [], ◌∷◌, ◌++◌, Option, Some, Result, Ok, Err, length, take, refl, ap, sym, ◌∙◌, subst, arith, length-append}
use Rattle.std.proofs.lemmas.List.{take_at, append_cancel_left}
use Rattle.dps_lex.specs.CommentText.{opening, IsComment}
use Rattle.dps_lex.specs.LexemeText.{IsLexeme, name, digits, sign_of, IsToken, IsFaulty}
use Rattle.dps_lex.specs.Reading.{BeginsWith, IsGap, blank, comment, IsFirstLexeme, BeginsFault, token_at, fault_at, Reads, end, gap, token, fault}
use Rattle.dps_lex.specs.LawsOfReading.{NoTextHasTwoReadings}
use Rattle.dps_lex.specs.declared.vocabulary.TokenKind.{TokenKind}
use Rattle.dps_lex.specs.declared.vocabulary.TokenKind.TheVariants.{Identifier}
use Rattle.dps_lex.specs.declared.vocabulary.Token.{Token}
use Rattle.dps_lex.specs.declared.vocabulary.FaultKind.{FaultKind}
use Rattle.dps_lex.specs.declared.vocabulary.FaultKind.TheVariants.{BadByte, OpenComment}
use Rattle.dps_lex.specs.declared.vocabulary.Fault.{Fault}
use Rattle.dps_lex.proofs.Nesting.{head_of, tail_of, inside_same}
use Rattle.dps_lex.proofs.Classes.{HasClass, HasClass-blank, name_class, digits_class, sign_class, sign_test, same_class, lexeme_long}
use Rattle.dps_lex.proofs.Judgement.{IsJudged, token_judged, faulty_judged, judged_same}

opening_class : HasClass opening 3
opening_class = record { cons = record { head = 40; tail = 42 ∷ []; is = refl }; class = refl }

comment_opens : (text bytes : List ℕ) → BeginsWith text bytes → IsComment text → BeginsWith opening bytes
comment_opens text bytes b c = (c.0 ++ b.0, b.1 ∙ ap (λ z. z ++ b.0) c.1)

blank_no_comment : {text bytes : List ℕ} → BeginsWith text bytes → HasClass text 2 → BeginsWith opening bytes → ⊥
blank_no_comment {text} {bytes} b h o = omega (arith, same_class text opening bytes b o h opening_class)

blank_no_lexeme : {text word bytes : List ℕ} → BeginsWith text bytes → HasClass text 2 → BeginsWith word bytes → IsLexeme word → ⊥
blank_no_lexeme {text} {bytes} b h w (name {text = word} n) = omega (arith, same_class text word bytes b w h (name_class word n))
blank_no_lexeme {text} {bytes} b h w (digits {text = word} n) = omega (arith, same_class text word bytes b w h (digits_class word n))
blank_no_lexeme {text} {bytes} b h w (sign_of {text = word} kind n) = omega (arith, same_class text word bytes b w h (sign_class word (sign_test kind word n)))

gap_long : {text : List ℕ} → IsGap text → 0 < length text
gap_long (blank t h) = omega (arith, ap length t)
gap_long (comment c) = omega (arith, ap length c.1)

-- two gaps at the front are one
record IsSameFront (text after twin behind : List ℕ) : Type 0 where
  texts : text ≡ twin
  rests : after ≡ behind

gap_same : {text after twin behind rest : List ℕ} → rest ≡ text ++ after → rest ≡ twin ++ behind → IsGap text → IsGap twin → IsSameFront text after twin behind
gap_same {after} {behind} e f (blank t h) (blank u k) =
    let both = ap (λ z. z ++ after) (sym t) ∙ sym e ∙ f ∙ ap (λ z. z ++ behind) u in
    record { texts = t ∙ ap (λ z. z ∷ []) (ap head_of both) ∙ sym u; rests = ap tail_of both }
gap_same {text} {after} {twin} {behind} {rest} e f (blank {b} t h) (comment c) =
    absurd (blank_no_comment (after, e) (HasClass-blank text b t h) (comment_opens twin rest (behind, f) c))
gap_same {text} {after} {twin} {behind} {rest} e f (comment c) (blank {b} t h) =
    absurd (blank_no_comment (behind, f) (HasClass-blank twin b t h) (comment_opens text rest (after, e) c))
gap_same {after} {behind} e f (comment c) (comment d) =
    let both = ap (λ z. z ++ after) (sym c.1) ∙ sym e ∙ f ∙ ap (λ z. z ++ behind) d.1 in
    let same = inside_same after behind c.2 d.2 (ap tail_of (ap tail_of both)) in
    record { texts = c.1 ∙ ap (λ z. opening ++ z) same.0 ∙ sym d.1; rests = same.1 }

gap_no_lexeme : {text word rest : List ℕ} (after : List ℕ) → rest ≡ text ++ after → IsGap text → IsFirstLexeme word rest → ⊥
gap_no_lexeme {text} after e (blank {b} t h) f = blank_no_lexeme (after, e) (HasClass-blank text b t h) f.begins f.lexeme
gap_no_lexeme {text} {rest} after e (comment c) f = f.no_comment (comment_opens text rest (after, e) c)

first_same : {text twin rest : List ℕ} → IsFirstLexeme text rest → IsFirstLexeme twin rest → text ≡ twin
first_same {text} {twin} {rest} f g =
    let same : length text ≡ length twin = omega (arith, f.longest twin g.begins g.lexeme, g.longest text f.begins f.lexeme) in
    sym (take_at text f.begins.0 (length text) refl) ∙ ap (take (length text)) (sym f.begins.1 ∙ g.begins.1) ∙ take_at twin g.begins.0 (length text) (sym same)

-- the ways to begin with a fault
data IsFaultOf : List ℕ → FaultKind → Type 0 where
  opened : {bytes : List ℕ} → BeginsWith opening bytes → ((text : List ℕ) → BeginsWith text bytes → ¬ IsComment text) → IsFaultOf bytes OpenComment
  stray :
      {bytes : List ℕ} → bytes ≢ [] → ¬ BeginsWith opening bytes → ((text : List ℕ) → BeginsWith text bytes → ¬ IsGap text)
      → ((text : List ℕ) → BeginsWith text bytes → ¬ IsLexeme text) → IsFaultOf bytes BadByte
  faulty : {bytes text : List ℕ} {kind : FaultKind} → IsFirstLexeme text bytes → IsFaulty kind text → IsFaultOf bytes kind

fault_of : (kind : FaultKind) (bytes : List ℕ) → BeginsFault kind bytes → IsFaultOf bytes kind
fault_of OpenComment bytes h = opened h.0 h.1
fault_of BadByte bytes h = stray h.0 h.1 h.2 h.3
fault_of kind bytes h = faulty h.1 h.2

gap_no_fault : {text rest : List ℕ} {kind : FaultKind} (after : List ℕ) → rest ≡ text ++ after → IsGap text → IsFaultOf rest kind → ⊥
gap_no_fault {text} after e (blank {b} t h) (opened o n) = blank_no_comment (after, e) (HasClass-blank text b t h) o
gap_no_fault {text} after e (comment c) (opened o n) = n text (after, e) c
gap_no_fault {text} after e g (stray s o n l) = n text (after, e) g
gap_no_fault after e g (faulty f h) = gap_no_lexeme after e g f

abbrev is_ok : Result TokenKind FaultKind → ℕ
is_ok (Ok k) = 1
is_ok (Err k) = 0

token_no_fault : {text rest : List ℕ} {wrong : FaultKind} (kind : TokenKind) → IsFirstLexeme text rest → IsToken kind text → IsFaultOf rest wrong → ⊥
token_no_fault kind f t (opened o n) = f.no_comment o
token_no_fault {text} kind f t (stray s o n l) = l text f.begins f.lexeme
token_no_fault {text} {wrong} kind f t (faulty {text = twin} g h) =
    omega (arith, ap is_ok (judged_same (token_judged kind text t) (subst (λ z. IsJudged z (Err wrong)) (sym (first_same f g)) (faulty_judged wrong twin h))))

abbrev ok_of : Result TokenKind FaultKind → TokenKind
ok_of (Ok k) = k
ok_of (Err k) = Identifier

abbrev err_of : Result TokenKind FaultKind → FaultKind
err_of (Ok k) = BadByte
err_of (Err k) = k

fault_same : {rest : List ℕ} {kind twin : FaultKind} → IsFaultOf rest kind → IsFaultOf rest twin → kind ≡ twin
fault_same (opened o n) (opened p m) = refl
fault_same (opened o n) (stray s p m l) = absurd (p o)
fault_same (opened o n) (faulty f h) = absurd (f.no_comment o)
fault_same (stray s p m l) (opened o n) = absurd (p o)
fault_same (stray s p m l) (stray s2 p2 m2 l2) = refl
fault_same (stray s p m l) (faulty {text} f h) = absurd (l text f.begins f.lexeme)
fault_same (faulty f h) (opened o n) = absurd (f.no_comment o)
fault_same (faulty {text} f h) (stray s p m l) = absurd (l text f.begins f.lexeme)
fault_same {kind} {twin} (faulty {text} f h) (faulty {text = other} g k) =
    ap err_of (judged_same (faulty_judged kind text h) (subst (λ z. IsJudged z (Err twin)) (sym (first_same f g)) (faulty_judged twin other k)))

nothing_begins : (text after : List ℕ) → [] ≡ text ++ after → 0 < length text → ⊥
nothing_begins text after e h = omega (arith, ap length e, length-append text after)

no_fault_of_nothing : {kind : FaultKind} → IsFaultOf [] kind → ⊥
no_fault_of_nothing (opened o n) = omega (arith, ap length o.1)
no_fault_of_nothing (stray s p m l) = s refl
no_fault_of_nothing (faulty {text} f h) = nothing_begins text f.begins.0 f.begins.1 (lexeme_long f.lexeme)

moved :
    {text after twin behind : List ℕ} {tokens : List Token} {stop : Option Fault} (before : List ℕ) → text ≡ twin → after ≡ behind
    → Reads (before ++ twin) behind tokens stop → Reads (before ++ text) after tokens stop
moved {text} {behind} {tokens} {stop} before t a r =
    subst (λ z. Reads (before ++ text) z tokens stop) (sym a) (subst (λ z. Reads (before ++ z) behind tokens stop) (sym t) r)

one : {before rest : List ℕ} {tokens others : List Token} {stop other : Option Fault} → Reads before rest tokens stop → Reads before rest others other → (tokens ≡ others) × (stop ≡ other)
one end end = (refl, refl)
one end (gap {text} {after} e g r) = absurd (nothing_begins text after e (gap_long g))
one end (token {text} {after} e f t r) = absurd (nothing_begins text after e (lexeme_long f.lexeme))
one end (fault {kind} f) = absurd (no_fault_of_nothing (fault_of kind [] f))
one (gap {text} {after} e g r) end = absurd (nothing_begins text after e (gap_long g))
one (gap {before} e g r) (gap f h s) =
    let same = gap_same e f g h in
    one r (moved before same.texts same.rests s)
one (gap {after} e g r) (token f h t s) = absurd (gap_no_lexeme after e g h)
one (gap {rest} {after} e g r) (fault {kind} f) = absurd (gap_no_fault after e g (fault_of kind rest f))
one (token {text} {after} e f t r) end = absurd (nothing_begins text after e (lexeme_long f.lexeme))
one (token e f t r) (gap {after} h g s) = absurd (gap_no_lexeme after h g f)
one (token {before} {rest} {text} {after} {kind} {tokens} e f t r) (token {text = twin} {after = behind} {kind = wise} {tokens = others} d g u s) =
    let texts = first_same f g in
    let rests : after ≡ behind = append_cancel_left text after behind (sym e ∙ d ∙ ap (λ z. z ++ behind) (sym texts)) in
    let kinds : kind ≡ wise = ap ok_of (judged_same (token_judged kind text t) (subst (λ z. IsJudged z (Ok wise)) (sym texts) (token_judged wise twin u))) in
    let later = one r (moved before texts rests s) in
    (ap (λ z. token_at before z text ∷ tokens) kinds ∙ ap (λ z. token_at before wise z ∷ tokens) texts ∙ ap (λ z. token_at before wise twin ∷ z) later.0, later.1)
one (token {rest} {kind} e f t r) (fault {kind = wrong} g) = absurd (token_no_fault kind f t (fault_of wrong rest g))
one (fault {kind} f) end = absurd (no_fault_of_nothing (fault_of kind [] f))
one (fault {rest} {kind} f) (gap {after} e g r) = absurd (gap_no_fault after e g (fault_of kind rest f))
one (fault {rest} {kind} f) (token {kind = sound} e g t r) = absurd (token_no_fault sound g t (fault_of kind rest f))
one (fault {before} {rest} {kind} f) (fault {kind = wise} g) =
    (refl, ap (λ z. Some (fault_at before z)) (fault_same (fault_of kind rest f) (fault_of wise rest g)))

pub one_reading : NoTextHasTwoReadings
one_reading bytes tokens others stop other r s = one r s
