-- What is reported of a file.
use Rattle.std.proofs.Common.{◌≡◌, ◌⊎◌, inl, inr, ℕ, ◌+◌, ◌<◌, ◌≤◌, ◌^◌, List, [], ◌∷◌, ◌++◌, Option, Some, None, length, refl, ap, sym, subst, arith, length-append, codes}
use Rattle.dps_signature.specs.Signature.{Signature}
use Rattle.dps_branch.specs.declared.Side.{Side}
use Rattle.dps_process.specs.Steps.{Label}
use Rattle.dps_process.specs.Models.{model_of}
use Rattle.dps_process.specs.Problem.{Problem}
use Rattle.dps_process.specs.declared.model.CommModel.{CommModel}
use Rattle.dps_replay.specs.Answers.{IsReplay}
use Rattle.dps_replay.specs.declared.outcome.Replay.{Replay}
use Rattle.dps_replay.specs.declared.outcome.Replay.TheVariants as replays
use Rattle.dps_trace.specs.declared.model.ModelName.{ModelName}
use Rattle.dps_trace.specs.declared.fault.TraceKind.{TraceKind}
use Rattle.dps_trace.specs.declared.fault.TraceKind.TheVariants as kinds
use Rattle.dps_trace.specs.Traces.{Trace}
use Rattle.dps_trace.specs.Text.{line, heading, first_header, second_header, model_line, side_line, label_text, label_lines, IsTraceText}
use Rattle.dps_trace.specs.Faults.{HasTraceFault, heading_lines}
use Rattle.dps_trace.specs.Values.{kind_text}
use Rattle.dps_report.specs.declared.outcome.Outcome.{Outcome}
use Rattle.dps_report.specs.declared.outcome.Outcome.TheVariants.{Refused, NoMemory}
use Rattle.dps_path.specs.Text.{path_text}
use Rattle.dps_report.specs.Reports.{field, first_line}
use Rattle.dps_witness.specs.Models.{in_model, name_of}
use Rattle.dps_witness.specs.Reading.{BeginsReport, IsAttackReport, alone, in_report, HoldsNone, IsRead, HasFault, of_model, of_text, no_trace, in_text}
use Rattle.dps_witness.specs.Answers.{Reports, IsLooked, IsWitness, IsWitnessOfText}

-- labels are no more than the bytes of their lines
few_labels : (signature : Signature) (labels : List Label) (rest : List ℕ) → length labels ≤ length (label_lines signature labels rest)
few_labels signature [] rest = omega arith
few_labels signature (label ∷ labels) rest =
    omega (arith, few_labels signature labels rest, length-append (label_text signature label) (10 ∷ label_lines signature labels rest))

line_longer : (text rest : List ℕ) → length rest ≤ length (line text rest)
line_longer text rest = omega (arith, length-append text (10 ∷ rest))

field_longer : (word value rest : List ℕ) → length rest ≤ length (field word value rest)
field_longer word value rest = omega (arith, length-append word (codes ": " ++ line value rest), line_longer value rest)

side_room : (side : Side) (rest : List ℕ) → length rest ≤ length (line (side_line side) rest)
side_room side rest = omega (arith, length-append (side_line side) (10 ∷ rest))

heading_room : (model : Option ModelName) (rest : List ℕ) → length rest ≤ length (heading model rest)
heading_room None rest = line_longer first_header rest
heading_room (Some model) rest = omega (arith, line_longer second_header (line (model_line model) rest), line_longer (model_line model) rest)

two_at_most : (model : Option ModelName) → heading_lines model ≤ 2
two_at_most None = omega arith
two_at_most (Some model) = omega arith

pub few_of_trace : (signature : Signature) (trace : Trace) (text : List ℕ) → IsTraceText signature trace text → length trace.labels ≤ length text
few_of_trace signature trace text h =
    let lines = label_lines signature trace.labels [] in
    omega (
      arith,
      ap length h.text,
      heading_room trace.model (line (side_line trace.side) lines),
      side_room trace.side lines,
      few_labels signature trace.labels [],
    )

lines_room :
    (signature : Signature) (text rest lines : List ℕ) (model : Option ModelName) (side : Side) (labels : List Label) → text ≡ heading model (line (side_line side) lines) → lines ≡ label_lines signature labels rest
    → length labels ≤ length text
lines_room signature text rest lines model side labels e f =
    omega (arith, ap length e, ap length f, heading_room model (line (side_line side) lines), side_room side lines, few_labels signature labels rest)

-- the number of a wrong line is not much more than that of the bytes
low_line : (signature : Signature) (text : List ℕ) (at : ℕ) (kind : TraceKind) → HasTraceFault signature text at kind → at ≤ length text + 4
low_line signature text at kinds.NoTrace f = absurd f
low_line signature text at kinds.Header f = omega (arith, f.first)
low_line signature text at kinds.Model f = omega (arith, f.second)
low_line signature text at kinds.Side f = omega (arith, f.place, two_at_most f.model)
low_line signature text at kinds.Label f =
    omega (arith, f.wrong.place, two_at_most f.model, lines_room signature text f.wrong.rest f.lines f.model f.side f.wrong.labels f.good f.wrong.good)
low_line signature text at kinds.Ax f =
    omega (arith, f.wrong.place, two_at_most f.model, lines_room signature text f.wrong.rest f.lines f.model f.side f.wrong.labels f.good f.wrong.good)

pub low_fault : (signature : Signature) (option : Option CommModel) (text : List ℕ) (at : ℕ) (kind : TraceKind) → HasFault signature option text at kind → at ≤ length text + 4
low_fault signature option text at kind (of_model other place is) = omega (arith, place)
low_fault signature option text at kind (of_text not f) = low_line signature text at kind f

pub room_for_line :
    (signature : Signature) (option : Option CommModel) (text : List ℕ) (at before : ℕ) (kind : TraceKind) → HasFault signature option text at kind → length text ≤ 1048576 → before ≤ 3 → before + at < 2 ^ 32
room_for_line signature option text at before kind f short few = omega (arith, low_fault signature option text at kind f, short, few)

pub few_read :
    (signature : Signature) (option : Option CommModel) (text : List ℕ) (trace : Trace) (model : CommModel) → IsRead signature option text trace model → length text ≤ 1048576
    → length trace.labels < 2 ^ 31
few_read signature option text trace model read short = omega (arith, few_of_trace signature trace text read.text_is, short)

-- the answer is reported
pub looked_at :
    (problem : Problem) (option : Option CommModel) (word : ℕ) (text : List ℕ) (before : ℕ) (trace : Trace) (model : CommModel) (outcome : Outcome)
    → IsRead problem.signature option text trace model → IsLooked problem trace model outcome → IsWitnessOfText problem option word text before outcome
looked_at problem option word text before trace model outcome read (inr e) bytes holds = subst (IsWitness problem option word bytes) (sym e) tt
looked_at problem option word text before trace model outcome read (inl look) bytes holds = by_answer look.answer look.is_answer look.reports
  where
    by_answer :
        (answer : Replay) → IsReplay (in_model problem (model_of model)) trace.side trace.labels answer → Reports problem.signature (name_of model) trace.side answer outcome
        → IsWitness problem option word bytes outcome
    by_answer (replays.NoRun n) is e =
        subst (IsWitness problem option word bytes) (sym e)
        (record { text = text; before = before; holds = holds; trace = trace; model = model; read = read; look = record { answer = replays.NoRun n; is_answer = is; reports = refl } })
    by_answer (replays.Attack end tests) is e =
        subst (IsWitness problem option word bytes) (sym e)
        (record { text = text; before = before; holds = holds; trace = trace; model = model; read = read; look = record { answer = replays.Attack end tests; is_answer = is; reports = refl } })
    by_answer (replays.Matched pairs) is e =
        subst (IsWitness problem option word bytes) (sym e)
        (record { text = text; before = before; holds = holds; trace = trace; model = model; read = read; look = record { answer = replays.Matched pairs; is_answer = is; reports = refl } })

-- a wrong line is reported, or there was no memory
abbrev pub IsWrongLine : ℕ → ℕ → TraceKind → Outcome → Type 0
IsWrongLine word at kind outcome = (outcome ≡ NoMemory) ⊎ (outcome ≡ Refused word at 1 (kind_text kind))

pub wrong_line :
    (problem : Problem) (option : Option CommModel) (word : ℕ) (text : List ℕ) (before inner at : ℕ) (kind : TraceKind) (outcome : Outcome)
    → HasFault problem.signature option text inner kind → at ≡ before + inner → IsWrongLine word at kind outcome → IsWitnessOfText problem option word text before outcome
wrong_line problem option word text before inner at kind outcome fault place (inl e) bytes holds = subst (IsWitness problem option word bytes) (sym e) tt
wrong_line problem option word text before inner at kind outcome fault place (inr e) bytes holds =
    subst (IsWitness problem option word bytes) (sym e) (refl, record { kind = kind; faulty = in_text text before inner holds fault place; first_column = refl; printed = refl })

pub nothing_held :
    (problem : Problem) (option : Option CommModel) (word : ℕ) (bytes : List ℕ) (outcome : Outcome) → HoldsNone bytes → IsWrongLine word 1 kinds.NoTrace outcome → IsWitness problem option word bytes outcome
nothing_held problem option word bytes outcome none (inl e) = subst (IsWitness problem option word bytes) (sym e) tt
nothing_held problem option word bytes outcome none (inr e) =
    subst (IsWitness problem option word bytes) (sym e) (refl, record { kind = kinds.NoTrace; faulty = no_trace none refl refl; first_column = refl; printed = refl })

pub held_alone :
    (problem : Problem) (option : Option CommModel) (word : ℕ) (bytes : List ℕ) (outcome : Outcome) → ¬ BeginsReport bytes → IsWitnessOfText problem option word bytes 0 outcome
    → IsWitness problem option word bytes outcome
held_alone problem option word bytes outcome other h = h bytes (alone other refl refl)

pub held_in_report :
    (problem : Problem) (option : Option CommModel) (word : ℕ) (bytes text : List ℕ) (outcome : Outcome) → BeginsReport bytes → IsAttackReport bytes text
    → IsWitnessOfText problem option word text 3 outcome → IsWitness problem option word bytes outcome
held_in_report problem option word bytes text outcome begins report h = h bytes (in_report begins report refl)

-- the trace's text is shorter than the report
pub shorter_text : (bytes text : List ℕ) → IsAttackReport bytes text → length bytes ≤ 1048576 → length text ≤ 1048576
shorter_text bytes text report short =
    let lines = field (codes "node") (path_text report.node) text in
    omega (
      arith,
      short,
      ap length report.report.1.text,
      line_longer (first_line report.report.0) (field (codes "result") (codes "not equivalent") lines),
      field_longer (codes "result") (codes "not equivalent") lines,
      field_longer (codes "node") (path_text report.node) text,
    )

pub ruleset for_in_text = (room_for_line, few_read, looked_at, wrong_line)

pub ruleset for_witness = (nothing_held, held_alone, held_in_report)
