-- Which outcomes have texts.
use Rattle.std.specs.Prelude.{◌≡◌, ◌≢◌, ◌<◌, ◌^◌, ℕ, List, [], ◌∷◌, ◌++◌, Option, Some, None, All, codes, ⊤}
use Rattle.std.specs.Str.{IsUtf8}
use Rattle.dps_path.specs.Text.{IsPath}
use Rattle.dps_trace.specs.declared.model.ModelName.{ModelName}
use Rattle.dps_trace.specs.Cut.{IsWithout}
use Rattle.dps_trace.specs.Text.{heading}
use Rattle.dps_report.specs.declared.format.Format.{Format}
use Rattle.dps_report.specs.declared.format.Format.TheVariants.{First, Second}
use Rattle.dps_report.specs.declared.outcome.Outcome.{Outcome}
use Rattle.dps_report.specs.declared.outcome.Outcome.TheVariants.{Equivalent, NotEquivalent, Spent, Refused, Stopped, TheoryAccepted, Attack, Matched, NoRun, NoMemory}

-- a word: not empty, and without a blank and a newline
pub record IsWord (text : List ℕ) : Type 0 where
  pub some : text ≢ []
  pub no_blank : IsWithout 32 text
  pub no_newline : IsWithout 10 text

-- a test on one recipe, which has a value or none, or on two recipes, whose values are equal or not
pub data IsTest (text : List ℕ) : Type 0 where
  value : (r : List ℕ) → IsWord r → text ≡ codes "value " ++ r → IsTest text
  equal : (r s : List ℕ) → IsWord r → IsWord s → text ≡ codes "equal " ++ (r ++ (32 ∷ s)) → IsTest text

pub record IsTestText (text : List ℕ) : Type 0 where
  pub test : IsTest text
  pub utf8 : IsUtf8 text

-- one line of text
pub record IsCause (text : List ℕ) : Type 0 where
  pub one_line : IsWithout 10 text
  pub utf8 : IsUtf8 text

-- the last byte is a newline
abbrev pub EndsLine : List ℕ → Type 0
EndsLine text = (front : List ℕ) × (text ≡ front ++ (10 ∷ []))

-- lines, each ended by a newline, of which the first are those before the side's in a trace of this model
pub record HasTraceLines (model : Option ModelName) (text : List ℕ) : Type 0 where
  pub begins : (rest : List ℕ) × (text ≡ heading model rest)
  pub lines : EndsLine text

-- the same as text
pub record IsTraceOf (model : Option ModelName) (text : List ℕ) : Type 0 where
  pub trace : HasTraceLines model text
  pub utf8 : IsUtf8 text

-- the numbers of the outcome's path are those of kids
abbrev pub HasPath : Outcome → Type 0
HasPath (Equivalent model) = ⊤
HasPath (NotEquivalent model node trace) = IsPath node
HasPath (Spent model node steps) = IsPath node
HasPath (Refused file at column cause) = ⊤
HasPath (Stopped name word) = ⊤
HasPath (TheoryAccepted rules) = ⊤
HasPath (Attack model side tests) = ⊤
HasPath (Matched model side) = ⊤
HasPath (NoRun model label) = ⊤
HasPath NoMemory = ⊤

-- The outcome has a text: its numbers are below the bounds of texts, and its texts are those of a trace, of a cause, of tests.
abbrev pub IsOutcome : Outcome → Type 0
IsOutcome (Equivalent model) = ⊤
IsOutcome (NotEquivalent model node trace) = IsTraceOf model trace
IsOutcome (Spent model node steps) = steps < 2 ^ 64
IsOutcome (Refused file at column cause) = (file < 2 ^ 32) × (at < 2 ^ 32) × (column < 2 ^ 32) × IsCause cause
IsOutcome (Stopped name word) = word < 2 ^ 32
IsOutcome (TheoryAccepted rules) = rules < 2 ^ 32
IsOutcome (Attack model side tests) = All IsTestText tests
IsOutcome (Matched model side) = ⊤
IsOutcome (NoRun model label) = label < 2 ^ 32
IsOutcome NoMemory = ⊤

-- format 1 names no model, and format 2 names one
abbrev pub Names : Format → Option ModelName → Type 0
Names First model = model ≡ None
Names Second model = (m : ModelName) × (model ≡ Some m)

-- format 1 has no tests
abbrev pub HasTests : Format → List (List ℕ) → Type 0
HasTests First tests = tests ≡ []
HasTests Second tests = ⊤

-- The outcome is one of this format: where a model may stand, it names one or none as the format does.
abbrev pub Fits : Format → Outcome → Type 0
Fits format (Equivalent model) = Names format model
Fits format (NotEquivalent model node trace) = Names format model
Fits format (Spent model node steps) = Names format model
Fits format (Refused file at column cause) = ⊤
Fits format (Stopped name word) = ⊤
Fits format (TheoryAccepted rules) = ⊤
Fits format (Attack model side tests) = Names format model × HasTests format tests
Fits format (Matched model side) = Names format model
Fits format (NoRun model label) = Names format model
Fits format NoMemory = ⊤

-- an outcome of this format that has a text
pub record IsFitting (format : Format) (outcome : Outcome) : Type 0 where
  pub valid : IsOutcome outcome
  pub fits : Fits format outcome
