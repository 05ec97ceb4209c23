-- What a file with a trace comes to, beside a problem.
use Rattle.std.specs.Prelude.{◌≡◌, ◌⊎◌, ℕ, List, ◌∷◌, ◌++◌, map, Option, Some, codes, ⊤}
use Rattle.dps_branch.specs.declared.Side.{Side}
use Rattle.dps_signature.specs.Signature.{Signature}
use Rattle.dps_signature.specs.Text.{term_text}
use Rattle.dps_process.specs.Models.{model_of}
use Rattle.dps_process.specs.Problem.{Problem}
use Rattle.dps_process.specs.declared.model.CommModel.{CommModel}
use Rattle.dps_static.specs.declared.Test.{Test}
use Rattle.dps_static.specs.declared.Test.TheVariants.{Value, Equal}
use Rattle.dps_replay.specs.Answers.{IsReplay}
use Rattle.dps_replay.specs.declared.outcome.Replay.{Replay}
use Rattle.dps_replay.specs.declared.outcome.Replay.TheVariants as replays
use Rattle.dps_trace.specs.declared.model.ModelName.{ModelName}
use Rattle.dps_trace.specs.declared.fault.TraceKind.{TraceKind}
use Rattle.dps_trace.specs.Traces.{Trace}
use Rattle.dps_trace.specs.Values.{kind_text}
use Rattle.dps_report.specs.declared.outcome.Outcome.{Outcome}
use Rattle.dps_report.specs.declared.outcome.Outcome.TheVariants.{Equivalent, NotEquivalent, Spent, Refused, Stopped, TheoryAccepted, Attack, Matched, NoRun, NoMemory}
use Rattle.dps_witness.specs.Models.{in_model, name_of}
use Rattle.dps_witness.specs.Reading.{Holds, IsRead, IsFaulty}

-- `value R` or `equal R S`
abbrev pub test_text : Signature → Test → List ℕ
test_text signature (Value r) = codes "value " ++ term_text signature r
test_text signature (Equal r s) = codes "equal " ++ (term_text signature r ++ (32 ∷ term_text signature s))

-- what is reported of an answer of the side's trace in the model
abbrev pub Reports : Signature → ModelName → Side → Replay → Outcome → Type 0
Reports signature name side (replays.NoRun n) outcome = outcome ≡ NoRun (Some name) n
Reports signature name side (replays.Attack end tests) outcome = outcome ≡ Attack (Some name) side (map (test_text signature) tests.items)
Reports signature name side (replays.Matched pairs) outcome = outcome ≡ Matched (Some name) side

-- the answer of the trace in the model is reported
pub record IsLookedAt (problem : Problem) (trace : Trace) (model : CommModel) (outcome : Outcome) : Type 0 where
  pub answer : Replay
  pub is_answer : IsReplay (in_model problem (model_of model)) trace.side trace.labels answer
  pub reports : Reports problem.signature (name_of model) trace.side answer outcome

-- the same, or there was no memory
abbrev pub IsLooked : Problem → Trace → CommModel → Outcome → Type 0
IsLooked problem trace model outcome = IsLookedAt problem trace model outcome ⊎ (outcome ≡ NoMemory)

-- The file holds a trace; it is looked at under its model, and its answer is reported.
pub record IsAnswered (problem : Problem) (option : Option CommModel) (bytes : List ℕ) (outcome : Outcome) : Type 0 where
  pub text : List ℕ
  pub before : ℕ
  pub holds : Holds bytes text before
  pub trace : Trace
  pub model : CommModel
  pub read : IsRead problem.signature option text trace model
  pub look : IsLookedAt problem trace model outcome

-- The file holds no trace over the signature, or one that is not looked at, and its first wrong line is reported.
pub record IsRefused (signature : Signature) (option : Option CommModel) (bytes : List ℕ) (at column : ℕ) (cause : List ℕ) : Type 0 where
  pub kind : TraceKind
  pub faulty : IsFaulty signature option bytes at kind
  pub first_column : column ≡ 1
  pub printed : cause ≡ kind_text kind

-- What is reported of the file, which the word of this number names.
abbrev pub IsWitness : Problem → Option CommModel → ℕ → List ℕ → Outcome → Type 0
IsWitness problem option word bytes (Attack model side tests) = IsAnswered problem option bytes (Attack model side tests)
IsWitness problem option word bytes (Matched model side) = IsAnswered problem option bytes (Matched model side)
IsWitness problem option word bytes (NoRun model label) = IsAnswered problem option bytes (NoRun model label)
IsWitness problem option word bytes (Refused file at column cause) = (file ≡ word) × IsRefused problem.signature option bytes at column cause
IsWitness problem option word bytes NoMemory = ⊤
IsWitness problem option word bytes (Equivalent model) = ⊥
IsWitness problem option word bytes (NotEquivalent model node trace) = ⊥
IsWitness problem option word bytes (Spent model node steps) = ⊥
IsWitness problem option word bytes (Stopped name number) = ⊥
IsWitness problem option word bytes (TheoryAccepted rules) = ⊥

-- the same of each file that holds this text behind so many lines
abbrev pub IsWitnessOfText : Problem → Option CommModel → ℕ → List ℕ → ℕ → Outcome → Type 0
IsWitnessOfText problem option word text before outcome = (bytes : List ℕ) → Holds bytes text before → IsWitness problem option word bytes outcome
