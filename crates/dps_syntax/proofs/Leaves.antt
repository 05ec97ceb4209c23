-- The texts of tokens.
use Rattle.std.proofs.Common.{◌≡◌, ℕ, ◌+◌, ◌<◌, Bool, true, false, ◌&&◌, List, [], ◌∷◌, ◌++◌, Option, Some, None, ◌⊎◌, length, take, get_or, refl, ap, sym, ◌∙◌, subst, inl, inr, arith, add-one}
use Rattle.std.specs.Prelude.{map, slice_range}
use Rattle.std.specs.Str.{IsUtf8, IsAscii}
use Rattle.std.proofs.lemmas.Str.{IsUtf8-from_ascii}
use Rattle.std.proofs.Math.Seq.{take-suc}
use Rattle.std.proofs.lemmas.List.{map-append}
use Rattle.dps_lex.specs.Alphabet.{is_letter, is_digit, is_name_byte}
use Rattle.dps_lex.specs.Spelling.{keyword, sign}
use Rattle.dps_lex.specs.LexemeText.{IsName, IsDigits, IsToken}
use Rattle.std.specs.List.{list_all}
use Rattle.std.proofs.lemmas.List.Sums.{list_all-from_AllPass}
use Rattle.std.proofs.lemmas.Bool.Decides.{nat_tests}
use Rattle.std.proofs.Common.{nat_lt, zero, suc}
use borrow.Author.Tests.{ltb-true}
use Rattle.dps_lex.specs.declared.vocabulary.TokenKind.{TokenKind}
use Rattle.dps_lex.specs.declared.vocabulary.TokenKind.TheVariants as kind
use Rattle.dps_lex.specs.declared.vocabulary.Token.{Token}
use Rattle.dps_syntax.specs.declared.grammar.Word.{Word}
use Rattle.dps_syntax.specs.Tree.{word_of}
use Rattle.dps_syntax.specs.Files.{lexeme_at, words_at}
use Rattle.dps_syntax.specs.Spans.{IsSpan}

pub one_more_word :
    (bytes : List ℕ) (tokens : List Token) (i : ℕ) (d : Token) (w : Word) (before after : List Word) → i < length tokens
    → w ≡ word_of (lexeme_at bytes (get_or tokens i d)) → after ≡ before ++ w ∷ [] → before ≡ words_at bytes (take i tokens)
    → after ≡ words_at bytes (take (i + 1) tokens)
one_more_word bytes tokens i d w before after l e a b =
    let word : Token → Word = λ token. word_of (lexeme_at bytes token) in
    let more : take (i + 1) tokens ≡ take i tokens ++ get_or tokens i d ∷ [] = rw add-one (take-suc tokens i d l) in
    a ∙ ap (λ x. x ++ w ∷ []) b ∙ ap (λ x. words_at bytes (take i tokens) ++ x ∷ []) e ∙ sym (ap (map word) more ∙ map-append word (take i tokens) (get_or tokens i d ∷ []))

-- every token is ASCII

abbrev ascii : List ℕ → Bool
ascii [] = true
ascii (b ∷ bs) = nat_lt b 128 && ascii bs

both : (a b : Bool) → (a && b) ≡ true → (a ≡ true) × (b ≡ true)
both true b e = (refl, e)
both false b e = cc

two : (a b : Bool) → a ≡ true → b ≡ true → (a && b) ≡ true
two true b e f = f
two false b e f = cc

is_ascii : (bs : List ℕ) → ascii bs ≡ true → IsAscii bs
is_ascii [] e i = omega arith
is_ascii (b ∷ bs) e zero = ltb-true b 128 (both (nat_lt b 128) (ascii bs) e).0
is_ascii (b ∷ bs) e (suc i) = is_ascii bs (both (nat_lt b 128) (ascii bs) e).1 i

letter_ascii : (b : ℕ) → is_letter b ≡ true → nat_lt b 128 ≡ true
letter_ascii b e = grind (arith, nat_tests)

digit_ascii : (b : ℕ) → is_digit b ≡ true → nat_lt b 128 ≡ true
digit_ascii b e = grind (arith, nat_tests)

name_ascii : (b : ℕ) → is_name_byte b ≡ true → nat_lt b 128 ≡ true
name_ascii b e = grind (arith, nat_tests)

all_ascii : (p : ℕ → Bool) → ((b : ℕ) → p b ≡ true → nat_lt b 128 ≡ true) → (bs : List ℕ) → list_all p bs ≡ true → ascii bs ≡ true
all_ascii p each [] e = refl
all_ascii p each (b ∷ bs) e =
    let h = both (p b) (list_all p bs) e in
    two (nat_lt b 128) (ascii bs) (each b h.0) (all_ascii p each bs h.1)

name_text : (text : List ℕ) → IsName text → ascii text ≡ true
name_text [] n = absurd n
name_text (b ∷ bs) n = two (nat_lt b 128) (ascii bs) (letter_ascii b n.0) (all_ascii is_name_byte name_ascii bs (list_all-from_AllPass is_name_byte bs n.1))

digits_text : (text : List ℕ) → IsDigits text → ascii text ≡ true
digits_text [] n = absurd n
digits_text (b ∷ bs) n = two (nat_lt b 128) (ascii bs) (digit_ascii b n.0) (all_ascii is_digit digit_ascii bs (list_all-from_AllPass is_digit bs n.1))

abbrev ascii_or_none : Option (List ℕ) → Bool
ascii_or_none None = true
ascii_or_none (Some text) = ascii text

keywords_ascii : (k : TokenKind) → ascii_or_none (keyword k) ≡ true
keywords_ascii kind.Free = refl
keywords_ascii _ = refl

signs_ascii : (k : TokenKind) → ascii_or_none (sign k) ≡ true
signs_ascii kind.Free = refl
signs_ascii _ = refl

fixed_text : (k : TokenKind) (text : List ℕ) → (keyword k ≡ Some text) ⊎ (sign k ≡ Some text) → ascii text ≡ true
fixed_text k text (inl e) = ap ascii_or_none (sym e) ∙ keywords_ascii k
fixed_text k text (inr e) = ap ascii_or_none (sym e) ∙ signs_ascii k

token_text : (k : TokenKind) (text : List ℕ) → IsToken k text → ascii text ≡ true
token_text kind.Identifier text t = name_text text t.0
token_text kind.Number text t = digits_text text t.0
token_text k text t = fixed_text k text t

pub token_utf8 : (k : TokenKind) (text : List ℕ) → IsToken k text → IsUtf8 text
token_utf8 k text t = IsUtf8-from_ascii text (is_ascii text (token_text k text t))

pub text_is_utf8 : (bytes text : List ℕ) (token : Token) → IsSpan bytes token → text ≡ slice_range bytes token.start token.end → IsUtf8 text
text_is_utf8 bytes text token s e = subst IsUtf8 (sym e) (token_utf8 token.kind (slice_range bytes token.start token.end) s.text)
