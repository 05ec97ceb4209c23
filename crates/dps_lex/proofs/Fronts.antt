-- The first lexeme of bytes.
use Rattle.std.proofs.Common.{◌≡◌, ◌≢◌, ◌⊎◌, inl, inr, ℕ, ◌<◌, ◌≤◌, zero, suc, Bool, true, false, List}
use Rattle.std.proofs.Common.{[], ◌∷◌, ◌++◌, Some, length, get_or, take, drop, refl, ap, sym, ◌∙◌, subst, arith, length-append}
use Rattle.std.proofs.lemmas.List.{get_or_append_left, get_or-take, length-take-le, take-append-drop}
use Rattle.std.proofs.lemmas.List.Sums.{prefix_len_passes, prefix_len_stops, prefix_len-le-length}
use Rattle.std.proofs.lemmas.Bool.{cases_lt}
use Rattle.std.proofs.lemmas.Bool.Decides.{nat_tests}
use Rattle.std.specs.List.{prefix_len, AllPass}
use Rattle.std.specs.Str.Parse.{digits_value}
use Rattle.dps_lex.specs.Alphabet.{is_blank, is_letter, is_digit, is_name_byte}
use Rattle.dps_lex.specs.Spelling.{sign}
use Rattle.dps_lex.specs.CommentText.{opening}
use Rattle.dps_lex.specs.LexemeText.{IsName, IsDigits, name, digits, sign_of, IsToken, leads_with_zero}
use Rattle.dps_lex.specs.Reading.{BeginsWith, blank, comment, IsFirstLexeme, BeginsFault}
use Rattle.dps_lex.specs.Scanning.{IsNamed, HasNoSign, starts_arrow, BeginsToken}
use Rattle.dps_lex.specs.declared.vocabulary.TokenKind.{TokenKind}
use Rattle.dps_lex.specs.declared.vocabulary.TokenKind.TheVariants.{Identifier, Number, Arrow}
use Rattle.dps_lex.specs.declared.vocabulary.FaultKind.TheVariants.{LongName, BadNumber, LargeNumber, BadByte}
use Rattle.dps_lex.proofs.Nesting.{head_of, false_true}
use Rattle.dps_lex.proofs.Classes.{class, other_class, HasClass-blank, is_sign_text, sign_test, HasClass, name_class, digits_class, sign_class, sign_short, head_same, same_class}

-- no longer front passes than the longest
pub front_longest : (p : ℕ → Bool) (bytes text after : List ℕ) → bytes ≡ text ++ after → AllPass p text → length text ≤ prefix_len p bytes
front_longest p bytes text after e all =
    let n = prefix_len p bytes in
    elim (cases_lt n (length text)) [
      | inr short ↦ short
      | inl long ↦
          let within : n < length bytes = omega (arith, ap length e, length-append text after) in
          let here : get_or bytes n 0 ≡ get_or text n 0 = ap (λ z. get_or z n 0) e ∙ get_or_append_left text after 0 n long in
          false_true (sym (prefix_len_stops p bytes 0 within) ∙ ap p here ∙ all n 0 long)
    ]

pub front_passes : (p : ℕ → Bool) (bytes : List ℕ) → AllPass p (take (prefix_len p bytes) bytes)
front_passes p bytes k d h =
    let n = prefix_len p bytes in
    let short : k < n = omega (arith, h, length-take-le n bytes (prefix_len-le-length p bytes)) in
    ap p (get_or-take n bytes k d short) ∙ prefix_len_passes p bytes k d short

pub front_some : (p : ℕ → Bool) (bytes : List ℕ) → 0 < length bytes → p (get_or bytes 0 0) ≡ true → 0 < prefix_len p bytes
front_some p bytes some h =
    elim (cases_lt 0 (prefix_len p bytes)) [
      | inl more ↦ more
      | inr none ↦
          let zero_len : prefix_len p bytes ≡ 0 = omega arith in
          let stop : p (get_or bytes (prefix_len p bytes) 0) ≡ false = prefix_len_stops p bytes 0 (omega arith) in
          false_true (sym stop ∙ ap (λ k. p (get_or bytes k 0)) zero_len ∙ h)
    ]

letter_is_name_byte : (b : ℕ) → is_letter b ≡ true → is_name_byte b ≡ true
letter_is_name_byte b h = rw h refl

pub name_passes : (text : List ℕ) → IsName text → AllPass is_name_byte text
name_passes [] h k d l = absurd h
name_passes (b ∷ bs) h zero d l = letter_is_name_byte b h.0
name_passes (b ∷ bs) h (suc k) d l = h.1 k d (omega arith)

pub digits_pass : (text : List ℕ) → IsDigits text → AllPass is_digit text
digits_pass [] h k d l = absurd h
digits_pass (b ∷ bs) h zero d l = h.0
digits_pass (b ∷ bs) h (suc k) d l = h.1 k d (omega arith)

name_of : (text : List ℕ) → 0 < length text → is_letter (get_or text 0 0) ≡ true → AllPass is_name_byte text → IsName text
name_of [] some h all = absurd (omega arith)
name_of (b ∷ bs) some h all = (h, λ k d l. all (suc k) d (omega arith))

digits_of : (text : List ℕ) → 0 < length text → AllPass is_digit text → IsDigits text
digits_of [] some all = absurd (omega arith)
digits_of (b ∷ bs) some all = (all 0 0 (omega arith), λ k d l. all (suc k) d (omega arith))

head_is : (bytes : List ℕ) → 0 < length bytes → head_of bytes ≡ get_or bytes 0 0
head_is [] h = refl
head_is (b ∷ bs) h = refl

-- the first bytes, with what stands behind them
begins_front : (bytes : List ℕ) (n : ℕ) → BeginsWith (take n bytes) bytes
begins_front bytes n = (drop n bytes, sym (take-append-drop n bytes))

opening_class : HasClass opening 3
opening_class = record { cons = record { head = 40; tail = 42 ∷ []; is = refl }; class = refl }

-- the longest front of name bytes behind a letter
pub record IsRun (p : ℕ → Bool) (bytes : List ℕ) (n : ℕ) : Type 0 where
  pub some : 0 < n
  pub within : n ≤ length bytes
  pub long : length (take n bytes) ≡ n
  pub all : AllPass p (take n bytes)
  pub first : get_or (take n bytes) 0 0 ≡ get_or bytes 0 0

run_of : (p : ℕ → Bool) (bytes : List ℕ) (n : ℕ) → 0 < length bytes → p (get_or bytes 0 0) ≡ true → n ≡ prefix_len p bytes → IsRun p bytes n
run_of p bytes n some h e =
    let more : 0 < n = omega (arith, front_some p bytes some h) in
    let within : n ≤ length bytes = omega (arith, prefix_len-le-length p bytes) in
    record {
      some = more;
      within = within;
      long = length-take-le n bytes within;
      all = subst (λ m. AllPass p (take m bytes)) (sym e) (front_passes p bytes);
      first = get_or-take n bytes 0 0 more;
    }

first_name : (bytes : List ℕ) (n : ℕ) → IsRun is_name_byte bytes n → n ≡ prefix_len is_name_byte bytes → IsName (take n bytes) → IsFirstLexeme (take n bytes) bytes
first_name bytes n run e named =
    let text = take n bytes in
    let begins = begins_front bytes n in
    let mine = name_class text named in
    record {
      begins = begins;
      lexeme = name named;
      longest = λ other b l. elim l [
        | name h ↦ omega (arith, front_longest is_name_byte bytes _ b.0 b.1 (name_passes _ h), run.long)
        | digits h ↦ absurd (omega (arith, same_class text _ bytes begins b mine (digits_class _ h)))
        | sign_of kind h ↦ absurd (omega (arith, same_class text _ bytes begins b mine (sign_class _ (sign_test kind _ h))))
      ];
      no_comment = λ b. absurd (omega (arith, same_class text opening bytes begins b mine opening_class));
    }

first_digits : (bytes : List ℕ) (n : ℕ) → IsRun is_digit bytes n → n ≡ prefix_len is_digit bytes → IsDigits (take n bytes) → IsFirstLexeme (take n bytes) bytes
first_digits bytes n run e all =
    let text = take n bytes in
    let begins = begins_front bytes n in
    let mine = digits_class text all in
    record {
      begins = begins;
      lexeme = digits all;
      longest = λ other b l. elim l [
        | name h ↦ absurd (omega (arith, same_class text _ bytes begins b mine (name_class _ h)))
        | digits h ↦ omega (arith, front_longest is_digit bytes _ b.0 b.1 (digits_pass _ h), run.long)
        | sign_of kind h ↦ absurd (omega (arith, same_class text _ bytes begins b mine (sign_class _ (sign_test kind _ h))))
      ];
      no_comment = λ b. absurd (omega (arith, same_class text opening bytes begins b mine opening_class));
    }

-- a name's kind, by its keyword
named_token : (kind : TokenKind) (text : List ℕ) → IsName text → length text ≤ 64 → IsNamed kind text → IsToken kind text
named_token Identifier text n l h = (n, l, h)
named_token Number text n l h = absurd (cc)
named_token kind text n l h = inl h

-- a name at the front
record IsNameFront (bytes : List ℕ) (n : ℕ) : Type 0 where
  run : IsRun is_name_byte bytes n
  named : IsName (take n bytes)
  first : IsFirstLexeme (take n bytes) bytes

name_front : (bytes : List ℕ) (n : ℕ) → 0 < length bytes → is_letter (get_or bytes 0 0) ≡ true → n ≡ prefix_len is_name_byte bytes → IsNameFront bytes n
name_front bytes n some h e =
    let run = run_of is_name_byte bytes n some (letter_is_name_byte (get_or bytes 0 0) h) e in
    let named = name_of (take n bytes) (omega (arith, run.long, run.some)) (ap is_letter run.first ∙ h) run.all in
    record { run = run; named = named; first = first_name bytes n run e named }

pub name_token :
    (bytes text : List ℕ) (kind : TokenKind) (n : ℕ) → 0 < length bytes → is_letter (get_or bytes 0 0) ≡ true → n ≡ prefix_len is_name_byte bytes → n ≤ 64
    → text ≡ take n bytes → IsNamed kind text → BeginsToken bytes kind n
name_token bytes text kind n some h e short t named =
    let front = name_front bytes n some h e in
    record {
      some = front.run.some;
      within = front.run.within;
      first = front.first;
      token = named_token kind (take n bytes) front.named (omega (arith, front.run.long)) (subst (λ z. IsNamed kind z) t named);
    }

pub name_fault : (bytes : List ℕ) (n : ℕ) → 0 < length bytes → is_letter (get_or bytes 0 0) ≡ true → n ≡ prefix_len is_name_byte bytes → 64 < n → BeginsFault LongName bytes
name_fault bytes n some h e long =
    let front = name_front bytes n some h e in
    (take n bytes, front.first, (front.named, omega (arith, front.run.long)))

-- digits at the front
record IsDigitsFront (bytes : List ℕ) (n : ℕ) : Type 0 where
  run : IsRun is_digit bytes n
  all : IsDigits (take n bytes)
  first : IsFirstLexeme (take n bytes) bytes

digits_front : (bytes : List ℕ) (n : ℕ) → 0 < length bytes → is_digit (get_or bytes 0 0) ≡ true → n ≡ prefix_len is_digit bytes → IsDigitsFront bytes n
digits_front bytes n some h e =
    let run = run_of is_digit bytes n some h e in
    let all = digits_of (take n bytes) (omega (arith, run.long, run.some)) run.all in
    record { run = run; all = all; first = first_digits bytes n run e all }

pub digits_of_front : (bytes text : List ℕ) (n : ℕ) → n ≡ prefix_len is_digit bytes → text ≡ take n bytes → AllPass is_digit text
digits_of_front bytes text n e t =
    subst (λ z. AllPass is_digit z) (ap (λ m. take m bytes) (sym e) ∙ sym t) (front_passes is_digit bytes)

pub number_token :
    (bytes text : List ℕ) (n : ℕ) → 0 < length bytes → is_digit (get_or bytes 0 0) ≡ true → n ≡ prefix_len is_digit bytes → text ≡ take n bytes
    → leads_with_zero text ≡ false → digits_value 10 text ≤ 1000000 → BeginsToken bytes Number n
number_token bytes text n some h e t leads small =
    let front = digits_front bytes n some h e in
    record {
      some = front.run.some;
      within = front.run.within;
      first = front.first;
      token = (front.all, ap leads_with_zero (sym t) ∙ leads, subst (λ z. digits_value 10 z ≤ 1000000) t small);
    }

pub bad_number :
    (bytes text : List ℕ) (n : ℕ) → 0 < length bytes → is_digit (get_or bytes 0 0) ≡ true → n ≡ prefix_len is_digit bytes → text ≡ take n bytes
    → leads_with_zero text ≡ true → BeginsFault BadNumber bytes
bad_number bytes text n some h e t leads =
    let front = digits_front bytes n some h e in
    (take n bytes, front.first, (front.all, ap leads_with_zero (sym t) ∙ leads))

pub large_number :
    (bytes text : List ℕ) (n : ℕ) → 0 < length bytes → is_digit (get_or bytes 0 0) ≡ true → n ≡ prefix_len is_digit bytes → text ≡ take n bytes
    → leads_with_zero text ≡ false → 1000000 < digits_value 10 text → BeginsFault LargeNumber bytes
large_number bytes text n some h e t leads large =
    let front = digits_front bytes n some h e in
    (take n bytes, front.first, (front.all, ap leads_with_zero (sym t) ∙ leads, subst (λ z. 1000000 < digits_value 10 z) t large))

-- a sign at the front: no sign is longer
record HasSignLength (text bytes : List ℕ) : Type 0 where
  longest : (other : List ℕ) → BeginsWith other bytes → is_sign_text other ≡ true → length other ≤ length text

first_sign : (bytes : List ℕ) (n : ℕ) (kind : TokenKind) → sign kind ≡ Some (take n bytes) → HasSignLength (take n bytes) bytes → ¬ BeginsWith opening bytes → IsFirstLexeme (take n bytes) bytes
first_sign bytes n kind s long no_comment =
    let text = take n bytes in
    let begins = begins_front bytes n in
    let mine = sign_class text (sign_test kind text s) in
    record {
      begins = begins;
      lexeme = sign_of kind s;
      longest = λ other b l. elim l [
        | name h ↦ absurd (omega (arith, same_class text _ bytes begins b mine (name_class _ h)))
        | digits h ↦ absurd (omega (arith, same_class text _ bytes begins b mine (digits_class _ h)))
        | sign_of other_kind h ↦ long.longest _ b (sign_test other_kind _ h)
      ];
      no_comment = no_comment;
    }

-- signs of two bytes begin with a minus
short_sign : (text : List ℕ) → is_sign_text text ≡ true → head_of text ≢ 45 → length text ≤ 1
short_sign [] h m = omega arith
short_sign (a ∷ []) h m = omega arith
short_sign (a ∷ b ∷ []) h m = let minus : a ≡ 45 = grind (arith, nat_tests) in absurd (m minus)
short_sign (a ∷ b ∷ c ∷ bs) h m = false_true h

no_minus : (a : ℕ) → is_sign_text (a ∷ []) ≡ true → a ≢ 45
no_minus a h m = grind (arith, nat_tests)

sign_token : (kind : TokenKind) (text : List ℕ) → sign kind ≡ Some text → IsToken kind text
sign_token Identifier text h = absurd (cc)
sign_token Number text h = absurd (cc)
sign_token kind text h = inr h

one_byte : (bytes : List ℕ) → 0 < length bytes → take 1 bytes ≡ get_or bytes 0 0 ∷ []
one_byte [] h = absurd (omega arith)
one_byte (b ∷ bs) h = refl

pub byte_token : (bytes : List ℕ) (kind : TokenKind) → 0 < length bytes → ¬ BeginsWith opening bytes → sign kind ≡ Some (get_or bytes 0 0 ∷ []) → BeginsToken bytes kind 1
byte_token bytes kind some no_comment s =
    let b = get_or bytes 0 0 in
    let one = one_byte bytes some in
    let here : sign kind ≡ Some (take 1 bytes) = s ∙ ap Some (sym one) in
    let no : head_of bytes ≢ 45 = λ e. no_minus b (sign_test kind (b ∷ []) s) (sym (head_is bytes some) ∙ e) in
    record {
      some = omega arith;
      within = omega arith;
      first = first_sign bytes 1 kind here (record {
        longest = λ other begins h. (
            let short = short_sign other h (λ m. no (head_same other bytes begins (sign_class other h).cons ∙ m)) in
            omega (arith, ap length one, short));
      }) no_comment;
      token = sign_token kind (take 1 bytes) here;
    }

arrow_front : (bytes : List ℕ) → starts_arrow bytes ≡ true → take 2 bytes ≡ 45 ∷ 62 ∷ []
arrow_front [] h = false_true h
arrow_front (a ∷ []) h = false_true h
arrow_front (a ∷ b ∷ bs) h =
    let first : a ≡ 45 = grind (arith, nat_tests) in
    let second : b ≡ 62 = grind (arith, nat_tests) in
    ap (λ z. z ∷ b ∷ []) first ∙ ap (λ z. 45 ∷ z ∷ []) second

long_arrow : (bytes : List ℕ) → starts_arrow bytes ≡ true → 2 ≤ length bytes
long_arrow [] h = false_true h
long_arrow (a ∷ []) h = false_true h
long_arrow (a ∷ b ∷ bs) h = omega arith

pub arrow_token : (bytes : List ℕ) → ¬ BeginsWith opening bytes → starts_arrow bytes ≡ true → BeginsToken bytes Arrow 2
arrow_token bytes no_comment h =
    let two = arrow_front bytes h in
    let here : sign Arrow ≡ Some (take 2 bytes) = ap Some (sym two) in
    record {
      some = omega arith;
      within = long_arrow bytes h;
      first = first_sign bytes 2 Arrow here (record { longest = λ other begins s. omega (arith, ap length two, sign_short other s) }) no_comment;
      token = inr here;
    }

-- a sign at the front is one byte or an arrow
sign_cases : (text bytes : List ℕ) → BeginsWith text bytes → is_sign_text text ≡ true → (text ≡ head_of bytes ∷ []) ⊎ (starts_arrow bytes ≡ true)
sign_cases [] bytes b h = false_true h
sign_cases (a ∷ []) bytes b h = inl (ap (λ z. z ∷ []) (sym (ap head_of b.1)))
sign_cases (a ∷ c ∷ []) bytes b h = inr (ap starts_arrow b.1 ∙ h)
sign_cases (a ∷ c ∷ d ∷ bs) bytes b h = false_true h

pub bad_byte :
    (bytes : List ℕ) → 0 < length bytes → is_blank (get_or bytes 0 0) ≡ false → is_letter (get_or bytes 0 0) ≡ false → is_digit (get_or bytes 0 0) ≡ false
    → ¬ BeginsWith opening bytes → starts_arrow bytes ≡ false → HasNoSign (get_or bytes 0 0 ∷ []) → BeginsFault BadByte bytes
bad_byte bytes some w l d no_comment no_arrow no_sign =
    let here = head_is bytes some in
    let third : class (head_of bytes) ≡ 3 = ap class here ∙ other_class (get_or bytes 0 0) l d w in
    let clash : (n : ℕ) (text : List ℕ) → BeginsWith text bytes → HasClass text n → n ≡ 3 = λ n text b h. sym h.class ∙ ap class (sym (head_same text bytes b h.cons)) ∙ third in (
      (λ e. omega (arith, ap length e)),
      no_comment,
      (λ text b g. elim g [
        | blank {b = c} t h ↦ (
            let kind = HasClass-blank _ c t h in
            omega (arith, clash 2 _ b kind))
        | comment h ↦ no_comment (h.0 ++ b.0, b.1 ∙ ap (λ z. z ++ b.0) h.1)
      ]),
      (λ text b g. elim g [
        | name h ↦ omega (arith, clash 0 _ b (name_class _ h))
        | digits h ↦ omega (arith, clash 1 _ b (digits_class _ h))
        | sign_of kind h ↦ elim (sign_cases _ bytes b (sign_test kind _ h)) [
          | inl e ↦ no_sign.none kind (h ∙ ap Some (e ∙ ap (λ z. z ∷ []) here))
          | inr e ↦ false_true (sym no_arrow ∙ e)
        ]
      ]),
    )

pub run_within : (p : ℕ → Bool) (bytes : List ℕ) (n : ℕ) → n ≡ prefix_len p bytes → n ≤ length bytes
run_within p bytes n e = omega (arith, prefix_len-le-length p bytes)

pub ruleset for_name = (run_within, name_token, name_fault)

pub ruleset for_number = (run_within, digits_of_front, number_token, bad_number, large_number)

pub ruleset for_sign = (byte_token, arrow_token, bad_byte)
