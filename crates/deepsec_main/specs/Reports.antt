-- The texts and the statuses of answers.
use Rattle.std.specs.Prelude.{ℕ, List, [], None, string_bytes, ⊤}
use Rattle.dps_report.specs.declared.format.Format.TheVariants.{Second}
use Rattle.dps_report.specs.declared.outcome.Outcome.{Outcome}
use Rattle.dps_report.specs.declared.outcome.Outcome.TheVariants.{Equivalent, NotEquivalent, Spent, Refused, Stopped, TheoryAccepted, Attack, Matched, NoRun, NoMemory}
use Rattle.dps_report.specs.declared.outcome.StopName.{StopName}
use Rattle.dps_report.specs.declared.outcome.StopName.TheVariants.{TooLong, OpenFault, ReadFault, WordsRefused}
use Rattle.dps_report.specs.Reports.{report_text, NeedsMemory as ReportNeedsMemory}
use Rattle.deepsec_main.specs.declared.answer.Answer.{Answer}
use Rattle.deepsec_main.specs.declared.answer.Answer.TheVariants.{Report, Made}

-- The one text of an answer: a report of format 2, or the file that was made.
abbrev pub answer_text : Answer → List ℕ
answer_text (Report outcome) = report_text Second outcome
answer_text (Made text) = string_bytes text

-- the report of an attack at the root, with the text of its trace, which names the model
abbrev pub attack_report : List ℕ → List ℕ
attack_report trace = report_text Second (NotEquivalent None [] trace)

abbrev pub theory_report : ℕ → List ℕ
theory_report rules = report_text Second (TheoryAccepted rules)

abbrev pub stop_status : StopName → ℕ
stop_status TooLong = 8
stop_status OpenFault = 4
stop_status ReadFault = 4
stop_status WordsRefused = 7

-- the status of a report that was written
abbrev pub report_status : Outcome → ℕ
report_status (Equivalent model) = 0
report_status (NotEquivalent model node trace) = 1
report_status (Spent model node steps) = 2
report_status (Refused file at column cause) = 3
report_status (Stopped name word) = stop_status name
report_status (TheoryAccepted rules) = 0
report_status (Attack model side tests) = 1
report_status (Matched model side) = 0
report_status (NoRun model label) = 9
report_status NoMemory = 6

-- the status of an answer that was written
abbrev pub status_of : Answer → ℕ
status_of (Report outcome) = report_status outcome
status_of (Made text) = 0

-- the text of the answer takes memory
abbrev pub NeedsMemory : Answer → Type 0
NeedsMemory (Report outcome) = ReportNeedsMemory outcome
NeedsMemory (Made text) = ⊤
