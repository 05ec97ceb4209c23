-- The texts of tests, and attacks with them.
use Rattle.std.proofs.Common.{◌≡◌, ◌≢◌, ℕ, ◌<◌, ◌≤◌, ◌^◌, true, false, List, [], ◌∷◌, ◌++◌, Option, Some, None, refl, ap, sym, subst, ◌∙◌, length, get_or, codes, arith, length-append, append_assoc}
use Rattle.std.specs.Prelude.{◌==◌, IsTrue, IfSome}
use Rattle.std.specs.Fmt.{decimal}
use Rattle.std.specs.List.{All}
use Rattle.std.proofs.lemmas.List.Elements.{All-nil, All-head, All-tail, All-push}
use Rattle.std.proofs.lemmas.List.{append_cancel_left, append-nil}
use Rattle.std.proofs.lemmas.Option.{none-some}
use Rattle.std.proofs.lemmas.Bool.{eqb-true, eq-eqb}
use Rattle.dps_branch.specs.declared.Side.{Side}
use Rattle.dps_trace.specs.declared.model.ModelName.{ModelName}
use Rattle.dps_trace.specs.Cut.{IsCut, IsWithout}
use Rattle.dps_trace.specs.Text.{line, side_line}
use Rattle.dps_trace.proofs.Apart.{sides_apart}
use Rattle.dps_trace.proofs.Cuts.{one_cut, stands_there}
use Rattle.dps_report.specs.declared.format.Format.{Format}
use Rattle.dps_report.specs.declared.format.Format.TheVariants.{First, Second}
use Rattle.dps_report.specs.declared.outcome.Outcome.TheVariants.{Attack}
use Rattle.dps_report.specs.declared.results.ResultName.TheVariants as results
use Rattle.dps_report.specs.Outcomes.{IsFitting, IsWord, IsTest, value, equal, IsTestText, HasTests, Names}
use Rattle.dps_report.specs.Reports.{field, each_test, tests_if_named, behind_result}
use Rattle.dps_report.specs.Finding.{IsField, FindsResult, FindsTests, FindsListedTests}
use Rattle.dps_report.proofs.FieldsRead.{one_field, lacks-without}
use Rattle.dps_report.proofs.LongRead.{NoField, NoNumber, OneNumber}
use Rattle.dps_report.proofs.Only.{only_attack}
use Rattle.dps_report.proofs.ShortRead.{IsUnnamed, IsNamed, NoSide}

-- words

pub word_made : (text : List ℕ) → (length text == 0) ≡ false → IsWithout 32 text → IsWithout 10 text → IsWord text
word_made text some blank newline = record { some = λ e. let f : (length text == 0) ≡ true = eq-eqb (length text) 0 (ap length e) in cc; no_blank = blank; no_newline = newline }

pub cut_word : (x : ℕ) (text front rest : List ℕ) → IsCut x text front rest → IsWithout x text → ⊥
cut_word x text front rest cut h = stands_there x front rest (subst (IsWithout x) cut.whole h)

-- tests

pub false_is_no_answer : IsTrue false → ⊥
false_is_no_answer e = cc

v_is_e : ◌≡◌ {A = ℕ} 118 101 → ⊥
v_is_e e = omega (arith, e)

-- a test that begins as one on a value has its recipe behind
pub value_recipe : (test recipe : List ℕ) → test ≡ codes "value " ++ recipe → IsTest test → IsWord recipe
value_recipe test recipe e (value r w is) = subst IsWord (append_cancel_left (codes "value ") r recipe (sym is ∙ e)) w
value_recipe test recipe e (equal r s w v is) = absurd (v_is_e (ap (λ xs. get_or xs 0 0) (sym e ∙ is)))

pub value_is_test : (test recipe : List ℕ) → test ≡ codes "value " ++ recipe → IsWord recipe → IsTest test
value_is_test test recipe e w = value recipe w e

-- the same of one on two values
pub record AreWords (first second : List ℕ) : Type 0 where
  pub left : IsWord first
  pub right : IsWord second

pub equal_recipes : (test recipes first second : List ℕ) → test ≡ codes "equal " ++ recipes → IsCut 32 recipes first second → IsTest test → AreWords first second
equal_recipes test recipes first second e cut (value r w is) = absurd (v_is_e (ap (λ xs. get_or xs 0 0) (sym is ∙ e)))
equal_recipes test recipes first second e cut (equal r s w v is) =
    let whole : recipes ≡ r ++ (32 ∷ s) = append_cancel_left (codes "equal ") recipes (r ++ (32 ∷ s)) (sym e ∙ is) in
    let same = one_cut 32 first r second s cut.without w.no_blank (sym cut.whole ∙ whole) in
    record { left = subst IsWord (sym same.0) w; right = subst IsWord (sym same.1) v }

pub equal_is_test : (test recipes first second : List ℕ) → test ≡ codes "equal " ++ recipes → IsCut 32 recipes first second → IsWord first → IsWord second → IsTest test
equal_is_test test recipes first second e cut w v = equal first second w v (e ∙ ap (λ xs. codes "equal " ++ xs) cut.whole)

pub no_equal : (test recipes : List ℕ) → test ≡ codes "equal " ++ recipes → IsWithout 32 recipes → ¬ IsTest test
no_equal test recipes e h (value r w is) = v_is_e (ap (λ xs. get_or xs 0 0) (sym is ∙ e))
no_equal test recipes e h (equal r s w v is) =
    stands_there 32 r s (subst (IsWithout 32) (append_cancel_left (codes "equal ") recipes (r ++ (32 ∷ s)) (sym e ∙ is)) h)

pub neither_test :
    (test : List ℕ) → ((rest : List ℕ) → test ≢ codes "value " ++ rest) → ((rest : List ℕ) → test ≢ codes "equal " ++ rest) → ¬ IsTest test
neither_test test f g (value r w is) = f r is
neither_test test f g (equal r s w v is) = g (r ++ (32 ∷ s)) is

-- a test stands on one line

without-append : (x : ℕ) (xs ys : List ℕ) → IsWithout x xs → IsWithout x ys → IsWithout x (xs ++ ys)
without-append x [] ys h k = k
without-append x (b ∷ xs) ys h k = (h.0, without-append x xs ys h.1 k)

unbroken_test : (test : List ℕ) → IsTest test → IsWithout 10 test
unbroken_test test (value r w is) = subst (IsWithout 10) (sym is) (without-append 10 (codes "value ") r (lacks-without 10 (codes "value ") refl) w.no_newline)
unbroken_test test (equal r s w v is) =
    subst (IsWithout 10) (sym is) (without-append 10 (codes "equal ") (r ++ (32 ∷ s)) (lacks-without 10 (codes "equal ") refl) (without-append 10 r (32 ∷ s) w.no_newline ((λ e. omega (arith, e)), v.no_newline)))

-- lists of tests

-- others of the tests stand in the rest
pub record HasMore (tests others : List (List ℕ)) (rest : List ℕ) : Type 0 where
  pub more : List (List ℕ)
  pub all : others ≡ tests ++ more
  pub good : All IsTestText more
  pub lines : rest ≡ each_test more

-- The tests were read that stand before the rest.
pub record AreTestsRead (bytes : List ℕ) (tests : List (List ℕ)) (rest : List ℕ) : Type 0 where
  pub good : All IsTestText tests
  pub only : (others : List (List ℕ)) → All IsTestText others → bytes ≡ each_test others → HasMore tests others rest

pub none_read : (bytes : List ℕ) → AreTestsRead bytes [] bytes
none_read bytes = record { good = All-nil IsTestText; only = λ others all e. record { more = others; all = refl; good = all; lines = e } }

test_field : (rest test : List ℕ) (more : List (List ℕ)) → IsTestText test → rest ≡ each_test (test ∷ more) → IsField (codes "test: ") rest test (each_test more)
test_field rest test more t e = record { whole = e; one_line = unbroken_test test t.test }

some_left : (rest : List ℕ) → (length rest == 0) ≡ false → rest ≢ []
some_left rest h e = let f : (length rest == 0) ≡ true = eq-eqb (length rest) 0 (ap length e) in cc

some_line : (word text rest : List ℕ) → field word text rest ≢ []
some_line [] text rest e = cc
some_line (b ∷ word) text rest e = cc

none_left : (rest : List ℕ) → (length rest == 0) ≡ true → rest ≡ []
none_left [] e = refl
none_left (b ∷ bs) e = absurd (longer_than_none (eqb-true (length (b ∷ bs)) 0 e))
  where
    longer_than_none : length (b ∷ bs) ≡ 0 → ⊥
    longer_than_none f = omega (arith, f)

-- The first of the others, where some are left.
pub record HasFirst (tests others : List (List ℕ)) (rest : List ℕ) : Type 0 where
  pub first : List ℕ
  pub more : List (List ℕ)
  pub all : others ≡ (tests ++ first ∷ []) ++ more
  pub test : IsTestText first
  pub good : All IsTestText more
  pub field : IsField (codes "test: ") rest first (each_test more)

first_left : (tests others : List (List ℕ)) (rest : List ℕ) → rest ≢ [] → HasMore tests others rest → HasFirst tests others rest
first_left tests others rest some h = by_case h.more h.all h.good h.lines
  where
    by_case : (more : List (List ℕ)) → others ≡ tests ++ more → All IsTestText more → rest ≡ each_test more → HasFirst tests others rest
    by_case [] all good lines = absurd (some lines)
    by_case (test ∷ more) all good lines =
        record {
          first = test;
          more = more;
          all = all ∙ sym (append_assoc tests (test ∷ []) more);
          test = All-head IsTestText test more good;
          good = All-tail IsTestText test more good;
          field = test_field rest test more (All-head IsTestText test more good) lines;
        }

pub one_more :
    (bytes : List ℕ) (tests new : List (List ℕ)) (rest test behind text : List ℕ) → AreTestsRead bytes tests rest → (length rest == 0) ≡ false → IsField (codes "test: ") rest test behind
    → text ≡ test → IsTestText test → new ≡ tests ++ text ∷ [] → AreTestsRead bytes new behind
one_more bytes tests new rest test behind text h some here is good e =
    let new_is : new ≡ tests ++ test ∷ [] = e ∙ ap (λ t. tests ++ t ∷ []) is in
    subst (λ ts. AreTestsRead bytes ts behind) (sym new_is) (
    record {
      good = All-push IsTestText tests test h.good good;
      only = λ others all lines.
          let f = first_left tests others rest (some_left rest some) (h.only others all lines) in
          let same = one_field (codes "test: ") rest test f.first behind (each_test f.more) here f.field in
          record { more = f.more; all = f.all ∙ ap (λ t. (tests ++ t ∷ []) ++ f.more) (sym same.0); good = f.good; lines = same.1 };
    })

pub no_field_of_test :
    (bytes : List ℕ) (tests : List (List ℕ)) (rest : List ℕ) → AreTestsRead bytes tests rest → (length rest == 0) ≡ false → NoField (codes "test: ") rest → FindsTests bytes None
no_field_of_test bytes tests rest h some none =
    record {
      tests = tt;
      only = λ others all lines.
          let f = first_left tests others rest (some_left rest some) (h.only others all lines) in
          absurd (none f.first (each_test f.more) f.field);
    }

pub no_test :
    (bytes : List ℕ) (tests : List (List ℕ)) (rest test behind : List ℕ) → AreTestsRead bytes tests rest → (length rest == 0) ≡ false → IsField (codes "test: ") rest test behind
    → (IsTestText test → ◌≡◌ {A = Option (List ℕ)} None (Some test)) → FindsTests bytes None
no_test bytes tests rest test behind h some here none =
    record {
      tests = tt;
      only = λ others all lines.
          let f = first_left tests others rest (some_left rest some) (h.only others all lines) in
          let same = one_field (codes "test: ") rest test f.first behind (each_test f.more) here f.field in
          absurd (none-some test (none (subst IsTestText (sym same.0) f.test)));
    }

pub all_read : (bytes : List ℕ) (tests : List (List ℕ)) (rest : List ℕ) → AreTestsRead bytes tests rest → (length rest == 0) ≡ true → FindsTests bytes (Some tests)
all_read bytes tests rest h none = record { tests = h.good; only = λ others all lines. by_more others (h.only others all lines) }
  where
    by_case : (others more : List (List ℕ)) → others ≡ tests ++ more → rest ≡ each_test more → ◌≡◌ {A = Option (List (List ℕ))} (Some tests) (Some others)
    by_case others [] all lines = ap (λ ts. Some ts) (sym (all ∙ append-nil tests))
    by_case others (test ∷ more) all lines = absurd (some_line (codes "test") test (each_test more) (sym lines ∙ none_left rest none))

    by_more : (others : List (List ℕ)) → HasMore tests others rest → ◌≡◌ {A = Option (List (List ℕ))} (Some tests) (Some others)
    by_more others m = by_case others m.more m.all m.lines

-- what is behind a line is shorter
pub shorter : (rest test behind : List ℕ) → IsField (codes "test: ") rest test behind → length behind < length rest
shorter rest test behind f = omega (arith, ap length f.whole, length-append test (10 ∷ behind))

-- the tests with their number before them

longer_lines : (tests : List (List ℕ)) → length tests ≤ length (each_test tests)
longer_lines [] = omega arith
longer_lines (test ∷ tests) = omega (arith, longer_lines tests, length-append test (10 ∷ each_test tests))

few_tests : (bytes : List ℕ) (tests : List (List ℕ)) → length bytes < 2 ^ 64 → bytes ≡ field (codes "tests") (decimal (length tests)) (each_test tests) → length tests < 2 ^ 64
few_tests bytes tests small e =
    omega (arith, ap length e, longer_lines tests, length-append (decimal (length tests)) (10 ∷ each_test tests))

pub first_format : (bytes : List ℕ) → FindsListedTests First bytes (Some [])
first_format bytes = record { tests = (refl, All-nil IsTestText); only = λ model tests named has all e. ap (λ ts. Some ts) (sym has) }

-- in format 2 the lines begin with the number of tests
numbered :
    (bytes : List ℕ) (model : Option ModelName) (tests : List (List ℕ)) → Names Second model → bytes ≡ tests_if_named model tests → bytes ≡ field (codes "tests") (decimal (length tests)) (each_test tests)
numbered bytes None tests n e = absurd (none-some n.0 n.1)
numbered bytes (Some m) tests n e = e

pub no_count : (bytes : List ℕ) → length bytes < 2 ^ 64 → NoNumber (codes "tests: ") bytes → FindsListedTests Second bytes None
no_count bytes small none =
    record {
      tests = tt;
      only = λ model tests named has all e.
          let lines = numbered bytes model tests named e in
          absurd (none (length tests) (each_test tests) (few_tests bytes tests small lines) lines);
    }

pub tests_read :
    (bytes rest : List ℕ) (count : ℕ) (found : Option (List (List ℕ))) → length bytes < 2 ^ 64 → OneNumber (codes "tests: ") bytes count rest → FindsTests rest found
    → FindsListedTests Second bytes found
tests_read bytes rest count found small number f =
    record {
      tests = by_found found f.tests;
      only = λ model tests named has all e.
          let lines = numbered bytes model tests named e in
          f.only tests all (number (length tests) (each_test tests) (few_tests bytes tests small lines) lines).1;
    }
  where
    by_found : (found : Option (List (List ℕ))) → IfSome found (All IsTestText) → IfSome found (λ tests. HasTests Second tests × All IsTestText tests)
    by_found None h = tt
    by_found (Some tests) h = (tt, h)

-- attacks

module _ (format : Format) (bytes : List ℕ) where
  pub attack_unnamed : IsUnnamed format bytes → FindsResult format results.Attack bytes None
  attack_unnamed none =
      record {
        fitting = tt;
        only = only_attack format bytes None (λ model side tests fit e. absurd (none model (line (side_line side) (tests_if_named model tests)) fit.fits.0 e));
      }

  module _ (behind : List ℕ) (m : Option ModelName) (same : IsNamed format bytes m behind) where
    pub no_attack_side : NoSide behind → FindsResult format results.Attack bytes None
    no_attack_side none =
        record {
          fitting = tt;
          only =
              only_attack format bytes None (λ model side tests fit e.
              absurd (none side (tests_if_named model tests, (same model (line (side_line side) (tests_if_named model tests)) fit.fits.0 e).1)));
        }

    module _ (rest : List ℕ) (s : Side) (side_is : behind ≡ line (side_line s) rest) where
      at_tests :
          (model : Option ModelName) (side : Side) (tests : List (List ℕ)) → IsFitting format (Attack model side tests) → bytes ≡ behind_result (Attack model side tests)
          → (m ≡ model) × (s ≡ side) × (rest ≡ tests_if_named model tests)
      at_tests model side tests fit e =
          let a = same model (line (side_line side) (tests_if_named model tests)) fit.fits.0 e in
          let b = sides_apart s side rest (tests_if_named model tests) (sym side_is ∙ a.1) in
          (a.0, b.side, b.rest)

      pub no_tests : FindsListedTests format rest None → FindsResult format results.Attack bytes None
      no_tests f =
          record {
            fitting = tt;
            only =
                only_attack format bytes None (λ model side tests fit e.
                absurd (none-some tests (f.only model tests fit.fits.0 fit.fits.1 fit.valid (at_tests model side tests fit e).2)));
          }

      pub attack_read : (found : List (List ℕ)) → Names format m → FindsListedTests format rest (Some found) → FindsResult format results.Attack bytes (Some (Attack m s found))
      attack_read found names f =
          record {
            fitting = record { valid = f.tests.1; fits = (names, f.tests.0) };
            only =
                only_attack format bytes (Some (Attack m s found)) (λ model side tests fit e.
                let a = at_tests model side tests fit e in
                let t : ◌≡◌ {A = Option (List (List ℕ))} (Some found) (Some tests) = f.only model tests fit.fits.0 fit.fits.1 fit.valid a.2 in
                let found_is : found ≡ tests = cc in
                ap (λ x. Some (Attack x s found)) a.0 ∙ ap (λ x. Some (Attack model x found)) a.1 ∙ ap (λ x. Some (Attack model side x)) found_is);
          }

pub ruleset for_is_word = (word_made, cut_word)

pub ruleset for_read_tests = (none_read, one_more, no_field_of_test, no_test, all_read, shorter)

pub ruleset for_tests_like = (first_format, no_count, tests_read)

pub ruleset for_attack_like = (attack_unnamed, no_attack_side, no_tests, attack_read)
