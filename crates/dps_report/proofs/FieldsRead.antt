-- Lines of reports, read as a word and a value.
use Rattle.std.proofs.Common.{◌≡◌, ◌≢◌, ℕ, ◌<◌, ◌≤◌, ◌^◌, Bool, true, false, List, [], ◌∷◌, ◌++◌, Option, Some, None, refl, ap, sym, subst, ◌∙◌, arith, codes}
use Rattle.std.specs.Prelude.{◌==◌, if◌then◌else◌}
use Rattle.std.specs.Fmt.{decimal}
use Rattle.std.proofs.lemmas.Bool.{eq-eqb}
use Rattle.std.proofs.lemmas.List.{append_cancel_left}
use Rattle.std.proofs.lemmas.Option.{none-some}
use Rattle.dps_trace.specs.Cut.{IsCut, IsWithout}
use Rattle.dps_trace.specs.Scanning.{numeral}
use Rattle.dps_trace.specs.Text.{line}
use Rattle.dps_trace.proofs.Cuts.{one_cut, stands_there}
use Rattle.dps_trace.proofs.Digits.{numeral-decimal, AreDigits, decimal_digits}
use Rattle.dps_report.specs.Reports.{place_text}
use Rattle.dps_report.specs.Finding.{IsField}

pub field_found : (word bytes rest value behind : List ℕ) → bytes ≡ word ++ rest → IsCut 10 rest value behind → IsField word bytes value behind
field_found word bytes rest value behind e cut = record { whole = e ∙ ap (λ xs. word ++ xs) cut.whole; one_line = cut.without }

pub field_unended : (word bytes rest : List ℕ) → bytes ≡ word ++ rest → IsWithout 10 rest → (value behind : List ℕ) → ¬ IsField word bytes value behind
field_unended word bytes rest e h value behind f =
    stands_there 10 value behind (subst (IsWithout 10) (append_cancel_left word rest (line value behind) (sym e ∙ f.whole)) h)

pub no_field : (word bytes : List ℕ) → ((rest : List ℕ) → bytes ≢ word ++ rest) → (value behind : List ℕ) → ¬ IsField word bytes value behind
no_field word bytes h value behind f = h (line value behind) f.whole

pub ruleset for_read_field = (field_found, field_unended, no_field)

-- the value does not stand in the bytes
abbrev pub lacks : ℕ → List ℕ → Bool
lacks x [] = true
lacks x (b ∷ bs) = if b == x then false else lacks x bs

lacks_more : (x b : ℕ) (bs : List ℕ) (test : Bool) → (b == x) ≡ test → (if test then false else lacks x bs) ≡ true → (lacks x bs ≡ true → IsWithout x bs) → IsWithout x (b ∷ bs)
lacks_more x b bs true f g h = cc
lacks_more x b bs false f g h = ((λ e. let k : (b == x) ≡ true = eq-eqb b x e in cc), h g)

pub lacks-without : (x : ℕ) (bs : List ℕ) → lacks x bs ≡ true → IsWithout x bs
lacks-without x [] e = tt
lacks-without x (b ∷ bs) e = lacks_more x b bs (b == x) refl e (lacks-without x bs)

-- a word is said once
pub one_field : (word bytes v w r s : List ℕ) → IsField word bytes v r → IsField word bytes w s → (v ≡ w) × (r ≡ s)
one_field word bytes v w r s f g =
    one_cut 10 v w r s f.one_line g.one_line (append_cancel_left word (line v r) (line w s) (sym f.whole ∙ g.whole))

digits_without : (x : ℕ) (bs : List ℕ) → ((b : ℕ) → 48 ≤ b → b ≤ 57 → b ≢ x) → AreDigits bs → IsWithout x bs
digits_without x [] apart h = tt
digits_without x (b ∷ bs) apart h = (apart b h.0 h.1, digits_without x bs apart h.2)

no_newline : (b : ℕ) → 48 ≤ b → b ≤ 57 → b ≢ 10
no_newline b low high e = omega (arith, low, e)

no_colon : (b : ℕ) → 48 ≤ b → b ≤ 57 → b ≢ 58
no_colon b low high e = omega (arith, high, e)

-- digits stand on one line
pub unbroken_digits : (n : ℕ) → n < 2 ^ 64 → IsWithout 10 (decimal n)
unbroken_digits n small = digits_without 10 (decimal n) no_newline (decimal_digits n small)

pub number_field : (word bytes rest : List ℕ) (n : ℕ) → n < 2 ^ 64 → bytes ≡ word ++ line (decimal n) rest → IsField word bytes (decimal n) rest
number_field word bytes rest n small e = record { whole = e; one_line = unbroken_digits n small }

-- no number is said, where nothing is
pub no_number : (word bytes : List ℕ) → ((value rest : List ℕ) → ¬ IsField word bytes value rest) → (n : ℕ) (rest : List ℕ) → n < 2 ^ 64 → bytes ≡ word ++ line (decimal n) rest → ⊥
no_number word bytes none n rest small e = none (decimal n) rest (number_field word bytes rest n small e)

same_number : (digits : List ℕ) (n : ℕ) → n < 2 ^ 64 → digits ≡ decimal n → numeral digits ≡ Some n
same_number digits n small e = ap numeral e ∙ numeral-decimal n small

pub number_unread :
    (word bytes digits behind : List ℕ) → IsField word bytes digits behind → None ≡ numeral digits
    → (n : ℕ) (rest : List ℕ) → n < 2 ^ 64 → bytes ≡ word ++ line (decimal n) rest → ⊥
number_unread word bytes digits behind f r n rest small e =
    let same = one_field word bytes digits (decimal n) behind rest f (number_field word bytes rest n small e) in
    none-some n (r ∙ same_number digits n small same.0)

pub number_read :
    (word bytes digits behind : List ℕ) (m : ℕ) → IsField word bytes digits behind → Some m ≡ numeral digits
    → (n : ℕ) (rest : List ℕ) → n < 2 ^ 64 → bytes ≡ word ++ line (decimal n) rest → (m ≡ n) × (behind ≡ rest)
number_read word bytes digits behind m f r n rest small e =
    let same = one_field word bytes digits (decimal n) behind rest f (number_field word bytes rest n small e) in
    let is : ◌≡◌ {A = Option ℕ} (Some m) (Some n) = r ∙ same_number digits n small same.0 in
    (cc, same.1)

-- the digits before a colon
place_cut : (place : List ℕ) (at column : ℕ) → at < 2 ^ 64 → place ≡ place_text at column → IsCut 58 place (decimal at) (decimal column)
place_cut place at column small e = record { whole = e; without = digits_without 58 (decimal at) no_colon (decimal_digits at small) }

place_field :
    (bytes rest : List ℕ) (at column : ℕ) → at < 2 ^ 64 → column < 2 ^ 64 → bytes ≡ codes "at: " ++ line (place_text at column) rest
    → IsField (codes "at: ") bytes (place_text at column) rest
place_field bytes rest at column small less e = record { whole = e; one_line = joined (decimal at) (decimal column) (unbroken_digits at small) (unbroken_digits column less) }
  where
    joined : (xs ys : List ℕ) → IsWithout 10 xs → IsWithout 10 ys → IsWithout 10 (xs ++ (58 ∷ ys))
    joined [] ys h k = ((λ e. omega (arith, e)), k)
    joined (x ∷ xs) ys h k = (h.0, joined xs ys h.1 k)

pub no_place :
    (bytes : List ℕ) → ((value rest : List ℕ) → ¬ IsField (codes "at: ") bytes value rest)
    → (at column : ℕ) (rest : List ℕ) → at < 2 ^ 32 → column < 2 ^ 32 → bytes ≡ codes "at: " ++ line (place_text at column) rest → ⊥
no_place bytes none at column rest small less e =
    none (place_text at column) rest (place_field bytes rest at column (omega (arith, small)) (omega (arith, less)) e)

-- what was read as a place is the place
pub record IsSamePlace (place left right behind : List ℕ) (at column : ℕ) (rest : List ℕ) : Type 0 where
  pub line_is : left ≡ decimal at
  pub column_is : right ≡ decimal column
  pub rest_is : behind ≡ rest

pub same_place :
    (bytes place behind left right : List ℕ) → IsField (codes "at: ") bytes place behind → IsCut 58 place left right
    → (at column : ℕ) (rest : List ℕ) → at < 2 ^ 32 → column < 2 ^ 32 → bytes ≡ codes "at: " ++ line (place_text at column) rest
    → IsSamePlace place left right behind at column rest
same_place bytes place behind left right f cut at column rest small less e =
    let same = one_field (codes "at: ") bytes place (place_text at column) behind rest f (place_field bytes rest at column (omega (arith, small)) (omega (arith, less)) e) in
    let is = place_cut place at column (omega (arith, small)) same.0 in
    let both = one_cut 58 left (decimal at) right (decimal column) cut.without is.without (sym cut.whole ∙ is.whole) in
    record { line_is = both.0; column_is = both.1; rest_is = same.1 }

pub no_colon_there :
    (bytes place behind : List ℕ) → IsField (codes "at: ") bytes place behind → IsWithout 58 place
    → (at column : ℕ) (rest : List ℕ) → at < 2 ^ 32 → column < 2 ^ 32 → bytes ≡ codes "at: " ++ line (place_text at column) rest → ⊥
no_colon_there bytes place behind f none at column rest small less e =
    let same = one_field (codes "at: ") bytes place (place_text at column) behind rest f (place_field bytes rest at column (omega (arith, small)) (omega (arith, less)) e) in
    stands_there 58 (decimal at) (decimal column) (subst (IsWithout 58) same.0 none)

pub ruleset for_read_number = (no_number, number_unread, number_read)

-- short numbers

-- each number below 2^64 that is said is this one, or none is
abbrev pub SaysNumber : List ℕ → List ℕ → ℕ → List ℕ → Type 0
SaysNumber word bytes m behind = (n : ℕ) (rest : List ℕ) → n < 2 ^ 64 → bytes ≡ word ++ line (decimal n) rest → (m ≡ n) × (behind ≡ rest)

pub no_short :
    (word bytes : List ℕ) → ((n : ℕ) (rest : List ℕ) → n < 2 ^ 64 → bytes ≡ word ++ line (decimal n) rest → ⊥)
    → (n : ℕ) (rest : List ℕ) → n < 2 ^ 32 → bytes ≡ word ++ line (decimal n) rest → ⊥
no_short word bytes none n rest small e = none n rest (omega (arith, small)) e

pub short_unread :
    (word bytes behind : List ℕ) (m : ℕ) → SaysNumber word bytes m behind → (m < 2 ^ 32 → ◌≡◌ {A = Option ℕ} None (Some m))
    → (n : ℕ) (rest : List ℕ) → n < 2 ^ 32 → bytes ≡ word ++ line (decimal n) rest → ⊥
short_unread word bytes behind m says short n rest small e =
    let same = says n rest (omega (arith, small)) e in
    none-some m (short (omega (arith, small, same.0)))

pub short_read :
    (word bytes behind : List ℕ) (m k : ℕ) → SaysNumber word bytes m behind → (m < 2 ^ 32 → ◌≡◌ {A = Option ℕ} (Some k) (Some m))
    → (n : ℕ) (rest : List ℕ) → n < 2 ^ 32 → bytes ≡ word ++ line (decimal n) rest → (k ≡ n) × (behind ≡ rest)
short_read word bytes behind m k says short n rest small e =
    let same = says n rest (omega (arith, small)) e in
    let is : ◌≡◌ {A = Option ℕ} (Some k) (Some m) = short (omega (arith, small, same.0)) in
    let k_is : k ≡ m = cc in
    (k_is ∙ same.0, same.1)

pub ruleset for_read_short = (no_short, short_unread, short_read)

pub no_numeral : (digits : List ℕ) → None ≡ numeral digits → (n : ℕ) → n < 2 ^ 32 → digits ≡ decimal n → ◌≡◌ {A = Option ℕ} None (Some n)
no_numeral digits r n small e = r ∙ same_number digits n (omega (arith, small)) e

pub numeral_read :
    (digits : List ℕ) (m : ℕ) (found : Option ℕ) → Some m ≡ numeral digits → (m < 2 ^ 32 → found ≡ Some m) → (n : ℕ) → n < 2 ^ 32 → digits ≡ decimal n → found ≡ Some n
numeral_read digits m found r short n small e =
    let is : ◌≡◌ {A = Option ℕ} (Some m) (Some n) = r ∙ same_number digits n (omega (arith, small)) e in
    let m_is : m ≡ n = cc in
    short (omega (arith, small, m_is)) ∙ ap (λ k. Some k) m_is

pub ruleset for_short_numeral = (no_numeral, numeral_read)

-- what the digits are read as, where they are those of a short number
abbrev pub ReadsShort : List ℕ → Option ℕ → Type 0
ReadsShort digits found = (n : ℕ) → n < 2 ^ 32 → digits ≡ decimal n → found ≡ Some n

pub line_unread :
    (bytes place behind left right : List ℕ) → IsField (codes "at: ") bytes place behind → IsCut 58 place left right → ReadsShort left None
    → (at column : ℕ) (rest : List ℕ) → at < 2 ^ 32 → column < 2 ^ 32 → bytes ≡ codes "at: " ++ line (place_text at column) rest → ⊥
line_unread bytes place behind left right f cut reads at column rest small less e =
    none-some at (reads at small (same_place bytes place behind left right f cut at column rest small less e).line_is)

pub column_unread :
    (bytes place behind left right : List ℕ) → IsField (codes "at: ") bytes place behind → IsCut 58 place left right → ReadsShort right None
    → (at column : ℕ) (rest : List ℕ) → at < 2 ^ 32 → column < 2 ^ 32 → bytes ≡ codes "at: " ++ line (place_text at column) rest → ⊥
column_unread bytes place behind left right f cut reads at column rest small less e =
    none-some column (reads column less (same_place bytes place behind left right f cut at column rest small less e).column_is)

pub place_read :
    (bytes place behind left right : List ℕ) (l k : ℕ) → IsField (codes "at: ") bytes place behind → IsCut 58 place left right → ReadsShort left (Some l) → ReadsShort right (Some k)
    → (at column : ℕ) (rest : List ℕ) → at < 2 ^ 32 → column < 2 ^ 32 → bytes ≡ codes "at: " ++ line (place_text at column) rest → (l ≡ at) × (k ≡ column) × (behind ≡ rest)
place_read bytes place behind left right l k f cut line_is column_is at column rest small less e =
    let same = same_place bytes place behind left right f cut at column rest small less e in
    let l_same : ◌≡◌ {A = Option ℕ} (Some l) (Some at) = line_is at small same.line_is in
    let k_same : ◌≡◌ {A = Option ℕ} (Some k) (Some column) = column_is column less same.column_is in
    (cc, cc, same.rest_is)

pub ruleset for_read_place = (no_place, no_colon_there, line_unread, column_unread, place_read)
