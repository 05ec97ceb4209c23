-- The texts of reports, in both formats.
use Rattle.std.specs.Prelude.{◌≡◌, ℕ, List, [], ◌∷◌, ◌++◌, Option, Some, None, length, codes, string_bytes, ⊤}
use Rattle.std.specs.Fmt.{decimal}
use Rattle.dps_path.specs.Text.{path_text}
use Rattle.dps_trace.specs.declared.model.ModelName.{ModelName}
use Rattle.dps_trace.specs.Text.{line, side_line, model_line}
use Rattle.dps_report.specs.declared.outcome.Outcome.{Outcome}
use Rattle.dps_report.specs.declared.outcome.Outcome.TheVariants.{Equivalent, NotEquivalent, Spent, Refused, Stopped, TheoryAccepted, Attack, Matched, NoRun, NoMemory}
use Rattle.dps_report.specs.declared.outcome.StopName.{StopName}
use Rattle.dps_report.specs.declared.outcome.StopName.TheVariants.{TooLong, OpenFault, ReadFault, WordsRefused}
use Rattle.dps_report.specs.declared.format.Format.{Format}
use Rattle.dps_report.specs.declared.format.Format.TheVariants.{First, Second}
use Rattle.dps_report.specs.declared.results.ResultName.{ResultName}
use Rattle.dps_report.specs.declared.results.ResultName.TheVariants as results
use Rattle.dps_report.specs.declared.printing.ReportText.{ReportText}
use Rattle.dps_report.specs.declared.printing.ReportText.TheVariants.{Short, Long}
use Rattle.dps_report.specs.Outcomes.{IsFitting}

abbrev pub stop_text : StopName → List ℕ
stop_text TooLong = codes "too long"
stop_text OpenFault = codes "open fault"
stop_text ReadFault = codes "read fault"
stop_text WordsRefused = codes "words refused"

-- what the line `result:` says
abbrev pub result_text : ResultName → List ℕ
result_text results.Equivalent = codes "equivalent"
result_text results.NotEquivalent = codes "not equivalent"
result_text results.Spent = codes "spent"
result_text results.Refused = codes "refused"
result_text (results.Stopped name) = stop_text name
result_text results.TheoryAccepted = codes "theory accepted"
result_text results.Attack = codes "attack"
result_text results.Matched = codes "matched"
result_text results.NoRun = codes "no run"
result_text results.NoMemory = codes "no memory"

abbrev pub result_of : Outcome → ResultName
result_of (Equivalent model) = results.Equivalent
result_of (NotEquivalent model node trace) = results.NotEquivalent
result_of (Spent model node steps) = results.Spent
result_of (Refused file at column cause) = results.Refused
result_of (Stopped name word) = results.Stopped name
result_of (TheoryAccepted rules) = results.TheoryAccepted
result_of (Attack model side tests) = results.Attack
result_of (Matched model side) = results.Matched
result_of (NoRun model label) = results.NoRun
result_of NoMemory = results.NoMemory

-- a word and what is said of it, on a line, and then the rest
abbrev pub field : List ℕ → List ℕ → List ℕ → List ℕ
field word value rest = word ++ (codes ": " ++ line value rest)

-- the model's line where there is a model
abbrev pub if_named : Option ModelName → List ℕ → List ℕ
if_named None rest = rest
if_named (Some model) rest = line (model_line model) rest

-- a line for each test
abbrev pub each_test : List (List ℕ) → List ℕ
each_test [] = []
each_test (test ∷ tests) = field (codes "test") test (each_test tests)

-- how many tests there are, and the tests; nothing in a report without a model
abbrev pub tests_if_named : Option ModelName → List (List ℕ) → List ℕ
tests_if_named None tests = []
tests_if_named (Some model) tests = field (codes "tests") (decimal (length tests)) (each_test tests)

-- a line and a column
abbrev pub place_text : ℕ → ℕ → List ℕ
place_text at column = decimal at ++ (58 ∷ decimal column)

-- the lines behind that of the result
abbrev pub behind_result : Outcome → List ℕ
behind_result (Equivalent model) = if_named model []
behind_result (NotEquivalent model node trace) = field (codes "node") (path_text node) trace
behind_result (Spent model node steps) = if_named model (field (codes "node") (path_text node) (field (codes "steps") (decimal steps) []))
behind_result (Refused file at column cause) = field (codes "file") (decimal file) (field (codes "at") (place_text at column) (field (codes "cause") cause []))
behind_result (Stopped name word) = field (codes "word") (decimal word) []
behind_result (TheoryAccepted rules) = field (codes "rules") (decimal rules) []
behind_result (Attack model side tests) = if_named model (line (side_line side) (tests_if_named model tests))
behind_result (Matched model side) = if_named model (line (side_line side) [])
behind_result (NoRun model label) = if_named model (field (codes "label") (decimal label) [])
behind_result NoMemory = []

-- the line of the result, and those behind it
abbrev pub outcome_lines : Outcome → List ℕ
outcome_lines outcome = field (codes "result") (result_text (result_of outcome)) (behind_result outcome)

-- the first line
abbrev pub first_line : Format → List ℕ
first_line First = codes "report 1"
first_line Second = codes "report 2"

-- The text: the format, the result, and what is said of it.
abbrev pub report_text : Format → Outcome → List ℕ
report_text format outcome = line (first_line format) (outcome_lines outcome)

-- The bytes are the outcome's text in this format.
pub record IsReportText (format : Format) (outcome : Outcome) (bytes : List ℕ) : Type 0 where
  pub fitting : IsFitting format outcome
  pub text : bytes ≡ report_text format outcome

-- the same in one of the formats
abbrev pub IsReport : Outcome → List ℕ → Type 0
IsReport outcome bytes = (format : Format) × IsReportText format outcome bytes

-- the bytes of a text of the code's
abbrev pub text_bytes : ReportText → List ℕ
text_bytes (Short text) = text.bytes
text_bytes (Long text) = string_bytes text

-- the text of the outcome takes memory
abbrev pub NeedsMemory : Outcome → Type 0
NeedsMemory (NotEquivalent model node trace) = ⊤
NeedsMemory (Spent model node steps) = ⊤
NeedsMemory (Refused file at column cause) = ⊤
NeedsMemory (Attack model side tests) = ⊤
NeedsMemory (Equivalent model) = ⊥
NeedsMemory (Stopped name word) = ⊥
NeedsMemory (TheoryAccepted rules) = ⊥
NeedsMemory (Matched model side) = ⊥
NeedsMemory (NoRun model label) = ⊥
NeedsMemory NoMemory = ⊥
