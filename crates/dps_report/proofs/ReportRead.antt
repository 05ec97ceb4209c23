-- The first lines of reports, and whole reports.
use Rattle.std.proofs.Common.{◌≡◌, ◌≢◌, ℕ, true, List, ◌++◌, Option, Some, None, refl, ap, sym, subst, ◌∙◌, drop, get_or, arith, codes}
use Rattle.std.proofs.lemmas.Option.{none-some}
use Rattle.dps_trace.specs.declared.model.ModelName.{ModelName}
use Rattle.dps_trace.specs.Faults.{BeginsWith}
use Rattle.dps_trace.specs.Text.{line, model_line, second_header}
use Rattle.dps_trace.proofs.Apart.{headings_apart}
use Rattle.dps_report.specs.declared.format.Format.{Format}
use Rattle.dps_report.specs.declared.format.Format.TheVariants.{First, Second}
use Rattle.dps_report.specs.declared.outcome.Outcome.{Outcome}
use Rattle.dps_report.specs.declared.outcome.StopName.TheVariants.{TooLong, OpenFault, ReadFault, WordsRefused}
use Rattle.dps_report.specs.declared.results.ResultName.{ResultName}
use Rattle.dps_report.specs.declared.results.ResultName.TheVariants as results
use Rattle.dps_report.specs.Named.{result_named}
use Rattle.dps_report.specs.Outcomes.{IsFitting, HasPath, Names}
use Rattle.dps_report.specs.Reports.{IsReport, first_line, if_named, result_text, result_of, behind_result, outcome_lines, report_text}
use Rattle.dps_report.specs.Finding.{IsField, FindsResult, FindsOutcome}
use Rattle.dps_report.proofs.FieldsRead.{one_field, lacks, lacks-without}

-- the format

one_is_two : ◌≡◌ {A = ℕ} 49 50 → ⊥
one_is_two e = omega (arith, e)

pub format_read : (bytes behind : List ℕ) (f : Format) → bytes ≡ line (first_line f) behind → (format : Format) (rest : List ℕ) → bytes ≡ line (first_line format) rest → (f ≡ format) × (behind ≡ rest)
format_read bytes behind First e First rest g = (refl, ap (drop 9) (sym e ∙ g))
format_read bytes behind First e Second rest g = absurd (one_is_two (ap (λ xs. get_or xs 7 0) (sym e ∙ g)))
format_read bytes behind Second e First rest g = absurd (one_is_two (ap (λ xs. get_or xs 7 0) (sym g ∙ e)))
format_read bytes behind Second e Second rest g = (refl, ap (drop 9) (sym e ∙ g))

pub no_format :
    (bytes : List ℕ) → ((rest : List ℕ) → bytes ≢ codes "report 1\n" ++ rest) → ((rest : List ℕ) → bytes ≢ codes "report 2\n" ++ rest)
    → (format : Format) (rest : List ℕ) → bytes ≡ line (first_line format) rest → ⊥
no_format bytes f g First rest e = f rest e
no_format bytes f g Second rest e = g rest e

-- the result

name_lacks : (name : ResultName) → lacks 10 (result_text name) ≡ true
name_lacks results.Equivalent = refl
name_lacks results.NotEquivalent = refl
name_lacks results.Spent = refl
name_lacks results.Refused = refl
name_lacks (results.Stopped TooLong) = refl
name_lacks (results.Stopped OpenFault) = refl
name_lacks (results.Stopped ReadFault) = refl
name_lacks (results.Stopped WordsRefused) = refl
name_lacks results.TheoryAccepted = refl
name_lacks results.Attack = refl
name_lacks results.Matched = refl
name_lacks results.NoRun = refl
name_lacks results.NoMemory = refl

named : (name : ResultName) → result_named (result_text name) ≡ Some name
named results.Equivalent = refl
named results.NotEquivalent = refl
named results.Spent = refl
named results.Refused = refl
named (results.Stopped TooLong) = refl
named (results.Stopped OpenFault) = refl
named (results.Stopped ReadFault) = refl
named (results.Stopped WordsRefused) = refl
named results.TheoryAccepted = refl
named results.Attack = refl
named results.Matched = refl
named results.NoRun = refl
named results.NoMemory = refl

result_field : (bytes : List ℕ) (name : ResultName) (rest : List ℕ) → bytes ≡ codes "result: " ++ line (result_text name) rest → IsField (codes "result: ") bytes (result_text name) rest
result_field bytes name rest e = record { whole = e; one_line = lacks-without 10 (result_text name) (name_lacks name) }

pub no_result :
    (bytes : List ℕ) → ((value rest : List ℕ) → ¬ IsField (codes "result: ") bytes value rest)
    → (name : ResultName) (rest : List ℕ) → bytes ≡ codes "result: " ++ line (result_text name) rest → ⊥
no_result bytes none name rest e = none (result_text name) rest (result_field bytes name rest e)

pub result_unnamed :
    (bytes text behind : List ℕ) → IsField (codes "result: ") bytes text behind → None ≡ result_named text
    → (name : ResultName) (rest : List ℕ) → bytes ≡ codes "result: " ++ line (result_text name) rest → ⊥
result_unnamed bytes text behind f n name rest e =
    let same = one_field (codes "result: ") bytes text (result_text name) behind rest f (result_field bytes name rest e) in
    none-some name (n ∙ ap result_named same.0 ∙ named name)

pub result_read :
    (bytes text behind : List ℕ) (found : ResultName) → IsField (codes "result: ") bytes text behind → Some found ≡ result_named text
    → (name : ResultName) (rest : List ℕ) → bytes ≡ codes "result: " ++ line (result_text name) rest → (found ≡ name) × (behind ≡ rest)
result_read bytes text behind found f n name rest e =
    let same = one_field (codes "result: ") bytes text (result_text name) behind rest f (result_field bytes name rest e) in
    let is : ◌≡◌ {A = Option ResultName} (Some found) (Some name) = n ∙ ap result_named same.0 ∙ named name in
    (cc, same.1)

-- the model

pub unnamed : (bytes : List ℕ) (model : Option ModelName) (rest : List ℕ) → Names First model → bytes ≡ if_named model rest → (None ≡ model) × (bytes ≡ rest)
unnamed bytes None rest n e = (refl, e)
unnamed bytes (Some m) rest n e = absurd (none-some m (sym n))

pub no_name :
    (bytes : List ℕ) → ((model : ModelName) → ¬ BeginsWith (model_line model) bytes) → (model : Option ModelName) (rest : List ℕ) → Names Second model → bytes ≡ if_named model rest → ⊥
no_name bytes none None rest n e = none-some n.0 n.1
no_name bytes none (Some m) rest n e = none m (rest, e)

pub name_read :
    (bytes behind : List ℕ) (m : ModelName) → bytes ≡ line (model_line m) behind → (model : Option ModelName) (rest : List ℕ) → Names Second model → bytes ≡ if_named model rest
    → (Some m ≡ model) × (behind ≡ rest)
name_read bytes behind m e None rest n g = absurd (none-some n.0 n.1)
name_read bytes behind m e (Some k) rest n g =
    let same = headings_apart (Some m) (Some k) behind rest (ap (line second_header) (sym e ∙ g)) in
    (same.model, same.rest)

-- the lines behind the first

pub result_missing :
    (format : Format) (bytes : List ℕ) → ((name : ResultName) (rest : List ℕ) → bytes ≡ codes "result: " ++ line (result_text name) rest → ⊥) → FindsOutcome format bytes None
result_missing format bytes none = record { fitting = tt; only = λ outcome fit path e. absurd (none (result_of outcome) (behind_result outcome) e) }

pub result_found :
    (format : Format) (bytes behind : List ℕ) (name : ResultName) (found : Option Outcome)
    → ((n : ResultName) (rest : List ℕ) → bytes ≡ codes "result: " ++ line (result_text n) rest → (name ≡ n) × (behind ≡ rest)) → FindsResult format name behind found
    → FindsOutcome format bytes found
result_found format bytes behind name found same f =
    record {
      fitting = f.fitting;
      only = λ outcome fit path e.
          let s = same (result_of outcome) (behind_result outcome) e in
          f.only outcome fit path (sym s.0) s.1;
    }

-- the whole report

pub no_report :
    (bytes : List ℕ) → ((format : Format) (rest : List ℕ) → bytes ≡ line (first_line format) rest → ⊥)
    → (outcome : Outcome) → HasPath outcome → IsReport outcome bytes → ◌≡◌ {A = Option Outcome} None (Some outcome)
no_report bytes none outcome path r = absurd (none r.0 (outcome_lines outcome) r.1.text)

-- the first line is of one format
abbrev pub IsOneFormat : List ℕ → Format → List ℕ → Type 0
IsOneFormat bytes format behind = (f : Format) (rest : List ℕ) → bytes ≡ line (first_line f) rest → (format ≡ f) × (behind ≡ rest)

pub report_only :
    (bytes behind : List ℕ) (format : Format) (found : Option Outcome) → IsOneFormat bytes format behind → FindsOutcome format behind found
    → (outcome : Outcome) → HasPath outcome → IsReport outcome bytes → found ≡ Some outcome
report_only bytes behind format found same finds outcome path r =
    let s = same r.0 (outcome_lines outcome) r.1.text in
    finds.only outcome (subst (λ f. IsFitting f outcome) (sym s.0) r.1.fitting) path s.1

pub report_found :
    (bytes behind text : List ℕ) (format : Format) (outcome : Outcome) → FindsOutcome format behind (Some outcome) → text ≡ report_text format outcome → text ≡ bytes → IsReport outcome bytes
report_found bytes behind text format outcome finds is e = (format, record { fitting = finds.fitting; text = sym e ∙ is })

pub other_report :
    (bytes behind text : List ℕ) (format : Format) (found : Outcome) → IsOneFormat bytes format behind → FindsOutcome format behind (Some found) → text ≡ report_text format found → text ≢ bytes
    → (outcome : Outcome) → HasPath outcome → IsReport outcome bytes → ◌≡◌ {A = Option Outcome} None (Some outcome)
other_report bytes behind text format found same finds is differs outcome path r =
    let s = same r.0 (outcome_lines outcome) r.1.text in
    let one : ◌≡◌ {A = Option Outcome} (Some found) (Some outcome) = report_only bytes behind format (Some found) same finds outcome path r in
    let found_is : found ≡ outcome = cc in
    absurd (differs (is ∙ ap (report_text format) found_is ∙ ap (λ f. report_text f outcome) s.0 ∙ sym r.1.text))

-- a text that is printed is that of its outcome
pub printed_again : (outcome : Outcome) (bytes : List ℕ) → IsFitting Second outcome → bytes ≡ report_text Second outcome → IsReport outcome bytes
printed_again outcome bytes fit e = (Second, record { fitting = fit; text = e })

pub ruleset for_read_format = (format_read, no_format)

pub ruleset for_read_result = (no_result, result_unnamed, result_read)

pub ruleset for_read_named = (unnamed, no_name, name_read)

pub ruleset for_outcome_like = (result_missing, result_found)

pub ruleset for_read_report = (no_report, report_only, report_found, other_report)
