-- An outcome with a result of this name is one of its kind.
use Rattle.std.proofs.Common.{◌≡◌, ℕ, List, Option, Some, ap, sym, ◌∙◌}
use Rattle.dps_branch.specs.declared.Side.{Side}
use Rattle.dps_trace.specs.declared.model.ModelName.{ModelName}
use Rattle.dps_report.specs.declared.format.Format.{Format}
use Rattle.dps_report.specs.declared.outcome.Outcome.{Outcome}
use Rattle.dps_report.specs.declared.outcome.Outcome.TheVariants.{Equivalent, NotEquivalent, Spent, Refused, Stopped, TheoryAccepted, Attack, Matched, NoRun, NoMemory}
use Rattle.dps_report.specs.declared.outcome.StopName.{StopName}
use Rattle.dps_report.specs.declared.results.ResultName.TheVariants as results
use Rattle.dps_report.specs.Outcomes.{IsFitting, HasPath}
use Rattle.dps_report.specs.Reports.{result_of, behind_result}

pub only_equivalent :
    (format : Format) (bytes : List ℕ) (found : Option Outcome) → ((model : Option ModelName) → IsFitting format (Equivalent model) → bytes ≡ behind_result (Equivalent model) → found ≡ Some (Equivalent model))
    → (outcome : Outcome) → IsFitting format outcome → HasPath outcome → result_of outcome ≡ results.Equivalent → bytes ≡ behind_result outcome → found ≡ Some outcome
only_equivalent format bytes found h (Equivalent model) fit path n e = h model fit e
only_equivalent format bytes found h outcome fit path n e = cc

pub only_not_equivalent :
    (format : Format) (bytes : List ℕ) (found : Option Outcome) → ((model : Option ModelName) (node : List ℕ) (trace : List ℕ) → IsFitting format (NotEquivalent model node trace) → HasPath (NotEquivalent model node trace) → bytes ≡ behind_result (NotEquivalent model node trace) → found ≡ Some (NotEquivalent model node trace))
    → (outcome : Outcome) → IsFitting format outcome → HasPath outcome → result_of outcome ≡ results.NotEquivalent → bytes ≡ behind_result outcome → found ≡ Some outcome
only_not_equivalent format bytes found h (NotEquivalent model node trace) fit path n e = h model node trace fit path e
only_not_equivalent format bytes found h outcome fit path n e = cc

pub only_spent :
    (format : Format) (bytes : List ℕ) (found : Option Outcome) → ((model : Option ModelName) (node : List ℕ) (steps : ℕ) → IsFitting format (Spent model node steps) → HasPath (Spent model node steps) → bytes ≡ behind_result (Spent model node steps) → found ≡ Some (Spent model node steps))
    → (outcome : Outcome) → IsFitting format outcome → HasPath outcome → result_of outcome ≡ results.Spent → bytes ≡ behind_result outcome → found ≡ Some outcome
only_spent format bytes found h (Spent model node steps) fit path n e = h model node steps fit path e
only_spent format bytes found h outcome fit path n e = cc

pub only_refused :
    (format : Format) (bytes : List ℕ) (found : Option Outcome) → ((file : ℕ) (at : ℕ) (column : ℕ) (cause : List ℕ) → IsFitting format (Refused file at column cause) → bytes ≡ behind_result (Refused file at column cause) → found ≡ Some (Refused file at column cause))
    → (outcome : Outcome) → IsFitting format outcome → HasPath outcome → result_of outcome ≡ results.Refused → bytes ≡ behind_result outcome → found ≡ Some outcome
only_refused format bytes found h (Refused file at column cause) fit path n e = h file at column cause fit e
only_refused format bytes found h outcome fit path n e = cc

pub only_accepted :
    (format : Format) (bytes : List ℕ) (found : Option Outcome) → ((rules : ℕ) → IsFitting format (TheoryAccepted rules) → bytes ≡ behind_result (TheoryAccepted rules) → found ≡ Some (TheoryAccepted rules))
    → (outcome : Outcome) → IsFitting format outcome → HasPath outcome → result_of outcome ≡ results.TheoryAccepted → bytes ≡ behind_result outcome → found ≡ Some outcome
only_accepted format bytes found h (TheoryAccepted rules) fit path n e = h rules fit e
only_accepted format bytes found h outcome fit path n e = cc

pub only_attack :
    (format : Format) (bytes : List ℕ) (found : Option Outcome) → ((model : Option ModelName) (side : Side) (tests : List (List ℕ)) → IsFitting format (Attack model side tests) → bytes ≡ behind_result (Attack model side tests) → found ≡ Some (Attack model side tests))
    → (outcome : Outcome) → IsFitting format outcome → HasPath outcome → result_of outcome ≡ results.Attack → bytes ≡ behind_result outcome → found ≡ Some outcome
only_attack format bytes found h (Attack model side tests) fit path n e = h model side tests fit e
only_attack format bytes found h outcome fit path n e = cc

pub only_matched :
    (format : Format) (bytes : List ℕ) (found : Option Outcome) → ((model : Option ModelName) (side : Side) → IsFitting format (Matched model side) → bytes ≡ behind_result (Matched model side) → found ≡ Some (Matched model side))
    → (outcome : Outcome) → IsFitting format outcome → HasPath outcome → result_of outcome ≡ results.Matched → bytes ≡ behind_result outcome → found ≡ Some outcome
only_matched format bytes found h (Matched model side) fit path n e = h model side fit e
only_matched format bytes found h outcome fit path n e = cc

pub only_no_run :
    (format : Format) (bytes : List ℕ) (found : Option Outcome) → ((model : Option ModelName) (label : ℕ) → IsFitting format (NoRun model label) → bytes ≡ behind_result (NoRun model label) → found ≡ Some (NoRun model label))
    → (outcome : Outcome) → IsFitting format outcome → HasPath outcome → result_of outcome ≡ results.NoRun → bytes ≡ behind_result outcome → found ≡ Some outcome
only_no_run format bytes found h (NoRun model label) fit path n e = h model label fit e
only_no_run format bytes found h outcome fit path n e = cc

pub only_no_memory :
    (format : Format) (bytes : List ℕ) (found : Option Outcome) → (IsFitting format NoMemory → bytes ≡ behind_result NoMemory → found ≡ Some NoMemory)
    → (outcome : Outcome) → IsFitting format outcome → HasPath outcome → result_of outcome ≡ results.NoMemory → bytes ≡ behind_result outcome → found ≡ Some outcome
only_no_memory format bytes found h NoMemory fit path n e = h fit e
only_no_memory format bytes found h outcome fit path n e = cc

pub only_stopped :
    (format : Format) (name : StopName) (bytes : List ℕ) (found : Option Outcome)
    → ((word : ℕ) → IsFitting format (Stopped name word) → bytes ≡ behind_result (Stopped name word) → found ≡ Some (Stopped name word))
    → (outcome : Outcome) → IsFitting format outcome → HasPath outcome → result_of outcome ≡ results.Stopped name → bytes ≡ behind_result outcome → found ≡ Some outcome
only_stopped format name bytes found h (Stopped other word) fit path n e =
    let same : other ≡ name = cc in
    let here : IsFitting format (Stopped name word) = record { valid = fit.valid; fits = tt } in
    h word here e ∙ ap (λ s. Some (Stopped s word)) (sym same)
only_stopped format name bytes found h outcome fit path n e = cc
