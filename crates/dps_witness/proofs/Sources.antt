-- Files that hold the text of a trace.
use Rattle.std.proofs.Common.{◌≡◌, ◌≢◌, inl, inr, ℕ, List, ◌++◌, Option, Some, None, subst, codes}
use Rattle.std.proofs.lemmas.Option.{none-some}
use Rattle.dps_trace.specs.declared.model.ModelName.{ModelName}
use Rattle.dps_report.specs.declared.outcome.Outcome.{Outcome}
use Rattle.dps_report.specs.declared.outcome.Outcome.TheVariants.{NotEquivalent}
use Rattle.dps_report.specs.Outcomes.{HasPath}
use Rattle.dps_report.specs.Reports.{IsReport}
use Rattle.dps_witness.specs.Reading.{BeginsReport, IsAttackReport, HoldsNone}

pub begins_first : (bytes rest : List ℕ) → bytes ≡ codes "report 1\n" ++ rest → BeginsReport bytes
begins_first bytes rest e = inl (rest, e)

pub begins_second : (bytes rest : List ℕ) → bytes ≡ codes "report 2\n" ++ rest → BeginsReport bytes
begins_second bytes rest e = inr (rest, e)

pub begins_neither : (bytes : List ℕ) → ((rest : List ℕ) → bytes ≢ codes "report 1\n" ++ rest) → ((rest : List ℕ) → bytes ≢ codes "report 2\n" ++ rest) → ¬ BeginsReport bytes
begins_neither bytes f g (inl h) = f h.0 h.1
begins_neither bytes f g (inr h) = g h.0 h.1

-- what was read of a report, if anything, is the outcome of which it is the report
abbrev pub OnlyReport : List ℕ → Option Outcome → Type 0
OnlyReport bytes found = (outcome : Outcome) → HasPath outcome → IsReport outcome bytes → found ≡ Some outcome

pub none_read : (bytes : List ℕ) → BeginsReport bytes → OnlyReport bytes None → HoldsNone bytes
none_read bytes begins only =
    record { begins = begins; none = λ model node text path report. none-some (NotEquivalent model node text) (only (NotEquivalent model node text) path report) }

pub other_read :
    (bytes : List ℕ) (outcome : Outcome) → BeginsReport bytes → OnlyReport bytes (Some outcome)
    → ((model : Option ModelName) (node text : List ℕ) → outcome ≡ NotEquivalent model node text → ⊥) → HoldsNone bytes
other_read bytes outcome begins only other =
    record {
      begins = begins;
      none = λ model node text path report.
          let e : ◌≡◌ {A = Option Outcome} (Some outcome) (Some (NotEquivalent model node text)) = only (NotEquivalent model node text) path report in
          other model node text (cc);
    }

pub attack_read : (bytes text : List ℕ) (outcome : Outcome) → IsReport outcome bytes → (model : Option ModelName) (node : List ℕ) → outcome ≡ NotEquivalent model node text → IsAttackReport bytes text
attack_read bytes text outcome report model node e = record { model = model; node = node; report = subst (λ o. IsReport o bytes) e report }

pub ruleset for_begins_report = (begins_first, begins_second, begins_neither)

pub ruleset for_source = (none_read, other_read, attack_read)
