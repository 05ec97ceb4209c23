-- The first bytes of lexemes.
use Rattle.std.proofs.Common.{◌≡◌, ℕ, ◌<◌, ◌≤◌, Bool, true, false, ◌&&◌, ◌==◌, not, if◌then◌else◌, nat_le, List, [], ◌∷◌, ◌++◌, Option, Some, None, length, refl, ap, sym, ◌∙◌, arith}
use Rattle.std.proofs.lemmas.Bool.Decides.{nat_tests}
use Rattle.dps_lex.specs.Alphabet.{is_blank, is_letter, is_digit}
use Rattle.dps_lex.specs.Spelling.{keyword, sign}
use Rattle.dps_lex.specs.LexemeText.{IsName, IsDigits, IsLexeme, name, digits, sign_of}
use Rattle.dps_lex.specs.Reading.{BeginsWith}
use Rattle.dps_lex.specs.declared.vocabulary.TokenKind.{TokenKind}
use Rattle.dps_lex.specs.declared.vocabulary.TokenKind.TheVariants.{Free}
use Rattle.dps_lex.proofs.Nesting.{IsCons, head_of, false_true}

-- a letter, a digit, a blank or another byte
abbrev pub class : ℕ → ℕ
class b = if is_letter b then 0 else (if is_digit b then 1 else (if is_blank b then 2 else 3))

pub letter_class : (b : ℕ) → is_letter b ≡ true → class b ≡ 0
letter_class b h = rw h refl

pub digit_class : (b : ℕ) → is_digit b ≡ true → class b ≡ 1
digit_class b h = let no : is_letter b ≡ false = grind (arith, nat_tests) in rw no (rw h refl)

pub blank_class : (b : ℕ) → is_blank b ≡ true → class b ≡ 2
blank_class b h =
    let no : is_letter b ≡ false = grind (arith, nat_tests) in
    let nor : is_digit b ≡ false = grind (arith, nat_tests) in
    rw no (rw nor (rw h refl))

pub other_class : (b : ℕ) → is_letter b ≡ false → is_digit b ≡ false → is_blank b ≡ false → class b ≡ 3
other_class b l d w = rw l (rw d (rw w refl))

-- what every sign passes
abbrev pub is_sign_text : List ℕ → Bool
is_sign_text [] = false
is_sign_text (a ∷ []) = class a == 3 && not (a == 45)
is_sign_text (a ∷ b ∷ []) = a == 45 && b == 62
is_sign_text _ = false

abbrev is_sign_or_none : Option (List ℕ) → Bool
is_sign_or_none None = true
is_sign_or_none (Some text) = is_sign_text text

sign_tests : (kind : TokenKind) → is_sign_or_none (sign kind) ≡ true
sign_tests Free = refl
sign_tests _ = refl

pub sign_test : (kind : TokenKind) (text : List ℕ) → sign kind ≡ Some text → is_sign_text text ≡ true
sign_test kind text e = ap is_sign_or_none (sym e) ∙ sign_tests kind

-- what every keyword passes
abbrev pub is_keyword_text : List ℕ → Bool
is_keyword_text [] = false
is_keyword_text (a ∷ bs) = class a == 0 && nat_le (length bs) 63

abbrev is_keyword_or_none : Option (List ℕ) → Bool
is_keyword_or_none None = true
is_keyword_or_none (Some text) = is_keyword_text text

keyword_tests : (kind : TokenKind) → is_keyword_or_none (keyword kind) ≡ true
keyword_tests Free = refl
keyword_tests _ = refl

pub keyword_test : (kind : TokenKind) (text : List ℕ) → keyword kind ≡ Some text → is_keyword_text text ≡ true
keyword_test kind text e = ap is_keyword_or_none (sym e) ∙ keyword_tests kind

-- the text is not empty and begins with a byte of this class
pub record HasClass (text : List ℕ) (n : ℕ) : Type 0 where
  pub cons : IsCons text
  pub class : class (head_of text) ≡ n

pub name_class : (text : List ℕ) → IsName text → HasClass text 0
name_class [] h = absurd h
name_class (b ∷ bs) h = record { cons = record { head = b; tail = bs; is = refl }; class = letter_class b h.0 }

pub HasClass-blank : (text : List ℕ) (b : ℕ) → text ≡ b ∷ [] → is_blank b ≡ true → HasClass text 2
HasClass-blank text b t h = record { cons = record { head = b; tail = []; is = t }; class = ap (λ z. class (head_of z)) t ∙ blank_class b h }

pub digits_class : (text : List ℕ) → IsDigits text → HasClass text 1
digits_class [] h = absurd h
digits_class (b ∷ bs) h = record { cons = record { head = b; tail = bs; is = refl }; class = digit_class b h.0 }

pub sign_class : (text : List ℕ) → is_sign_text text ≡ true → HasClass text 3
sign_class [] h = false_true h
sign_class (a ∷ []) h = record { cons = record { head = a; tail = []; is = refl }; class = grind (arith, nat_tests) }
sign_class (a ∷ b ∷ []) h =
    let minus : a ≡ 45 = grind (arith, nat_tests) in
    record { cons = record { head = a; tail = b ∷ []; is = refl }; class = ap class minus }
sign_class (a ∷ b ∷ c ∷ bs) h = false_true h

pub keyword_class : (text : List ℕ) → is_keyword_text text ≡ true → HasClass text 0
keyword_class [] h = false_true h
keyword_class (a ∷ bs) h = record { cons = record { head = a; tail = bs; is = refl }; class = grind (arith, nat_tests) }

pub keyword_short : (text : List ℕ) → is_keyword_text text ≡ true → length text ≤ 64
keyword_short [] h = false_true h
keyword_short (a ∷ bs) h = let short : length bs ≤ 63 = grind (arith, nat_tests) in omega arith

pub sign_short : (text : List ℕ) → is_sign_text text ≡ true → length text ≤ 2
sign_short [] h = false_true h
sign_short (a ∷ []) h = omega arith
sign_short (a ∷ b ∷ []) h = omega arith
sign_short (a ∷ b ∷ c ∷ bs) h = false_true h

-- the first byte of a text is that of the bytes that begin with it
pub head_same : (text bytes : List ℕ) → BeginsWith text bytes → IsCons text → head_of bytes ≡ head_of text
head_same text bytes b c = ap head_of (b.1 ∙ ap (λ z. z ++ b.0) c.is) ∙ ap head_of (sym c.is)

-- bytes begin with texts of one class alone
pub same_class : {n m : ℕ} (text twin bytes : List ℕ) → BeginsWith text bytes → BeginsWith twin bytes → HasClass text n → HasClass twin m → n ≡ m
same_class text twin bytes b c h k = sym h.class ∙ ap class (sym (head_same text bytes b h.cons) ∙ head_same twin bytes c k.cons) ∙ k.class

-- a lexeme is not empty
pub lexeme_long : {text : List ℕ} → IsLexeme text → 0 < length text
lexeme_long (name {text} h) = omega (arith, ap length (name_class text h).cons.is)
lexeme_long (digits {text} h) = omega (arith, ap length (digits_class text h).cons.is)
lexeme_long (sign_of {text} kind h) = omega (arith, ap length (sign_class text (sign_test kind text h)).cons.is)
