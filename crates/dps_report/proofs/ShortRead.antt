-- Outcomes without texts of unknown length, read from the lines behind the result's.
use Rattle.std.proofs.Common.{◌≡◌, ℕ, ◌<◌, ◌^◌, List, [], ◌++◌, Option, Some, None, refl, ap, sym, ◌∙◌, codes}
use Rattle.std.specs.Fmt.{decimal}
use Rattle.dps_branch.specs.declared.Side.{Side}
use Rattle.dps_trace.specs.declared.model.ModelName.{ModelName}
use Rattle.dps_trace.specs.Faults.{BeginsWith}
use Rattle.dps_trace.specs.Text.{line, side_line}
use Rattle.dps_trace.proofs.Apart.{sides_apart}
use Rattle.dps_report.specs.declared.format.Format.{Format}
use Rattle.dps_report.specs.declared.outcome.Outcome.TheVariants.{Equivalent, Stopped, TheoryAccepted, Matched, NoRun, NoMemory}
use Rattle.dps_report.specs.declared.outcome.StopName.{StopName}
use Rattle.dps_report.specs.declared.results.ResultName.TheVariants as results
use Rattle.dps_report.specs.Outcomes.{Names}
use Rattle.dps_report.specs.Reports.{if_named, field}
use Rattle.dps_report.specs.Finding.{FindsResult}
use Rattle.dps_report.proofs.Only.{only_equivalent, only_stopped, only_accepted, only_matched, only_no_run, only_no_memory}

-- no line of a model is read, and this one alone
abbrev pub IsUnnamed : Format → List ℕ → Type 0
IsUnnamed format bytes = (model : Option ModelName) (rest : List ℕ) → Names format model → bytes ≡ if_named model rest → ⊥

abbrev pub IsNamed : Format → List ℕ → Option ModelName → List ℕ → Type 0
IsNamed format bytes m behind = (model : Option ModelName) (rest : List ℕ) → Names format model → bytes ≡ if_named model rest → (m ≡ model) × (behind ≡ rest)

-- no short number is read behind this word, and this one alone
abbrev pub NoShort : List ℕ → List ℕ → Type 0
NoShort word bytes = (n : ℕ) (rest : List ℕ) → n < 2 ^ 32 → bytes ≡ word ++ line (decimal n) rest → ⊥

abbrev pub OneShort : List ℕ → List ℕ → ℕ → List ℕ → Type 0
OneShort word bytes m behind = (n : ℕ) (rest : List ℕ) → n < 2 ^ 32 → bytes ≡ word ++ line (decimal n) rest → (m ≡ n) × (behind ≡ rest)

-- no line of a side is there
abbrev pub NoSide : List ℕ → Type 0
NoSide bytes = (side : Side) → ¬ BeginsWith (side_line side) bytes

pub no_equivalent : (format : Format) (bytes : List ℕ) → IsUnnamed format bytes → FindsResult format results.Equivalent bytes None
no_equivalent format bytes none = record { fitting = tt; only = only_equivalent format bytes None (λ model fit e. absurd (none model [] fit.fits e)) }

pub equivalent_read :
    (format : Format) (bytes behind : List ℕ) (m : Option ModelName) → Names format m → IsNamed format bytes m behind → FindsResult format results.Equivalent bytes (Some (Equivalent m))
equivalent_read format bytes behind m names same =
    record {
      fitting = record { valid = tt; fits = names };
      only = only_equivalent format bytes (Some (Equivalent m)) (λ model fit e. ap (λ k. Some (Equivalent k)) (same model [] fit.fits e).0);
    }

pub no_stop : (format : Format) (name : StopName) (bytes : List ℕ) → NoShort (codes "word: ") bytes → FindsResult format (results.Stopped name) bytes None
no_stop format name bytes none = record { fitting = tt; only = only_stopped format name bytes None (λ word fit e. absurd (none word [] fit.valid e)) }

pub stop_read :
    (format : Format) (name : StopName) (bytes behind : List ℕ) (m : ℕ) → m < 2 ^ 32 → OneShort (codes "word: ") bytes m behind
    → FindsResult format (results.Stopped name) bytes (Some (Stopped name m))
stop_read format name bytes behind m small same =
    record {
      fitting = record { valid = small; fits = tt };
      only = only_stopped format name bytes (Some (Stopped name m)) (λ word fit e. ap (λ k. Some (Stopped name k)) (same word [] fit.valid e).0);
    }

pub none_accepted : (format : Format) (bytes : List ℕ) → NoShort (codes "rules: ") bytes → FindsResult format results.TheoryAccepted bytes None
none_accepted format bytes none = record { fitting = tt; only = only_accepted format bytes None (λ rules fit e. absurd (none rules [] fit.valid e)) }

pub accepted_read :
    (format : Format) (bytes behind : List ℕ) (m : ℕ) → m < 2 ^ 32 → OneShort (codes "rules: ") bytes m behind → FindsResult format results.TheoryAccepted bytes (Some (TheoryAccepted m))
accepted_read format bytes behind m small same =
    record {
      fitting = record { valid = small; fits = tt };
      only = only_accepted format bytes (Some (TheoryAccepted m)) (λ rules fit e. ap (λ k. Some (TheoryAccepted k)) (same rules [] fit.valid e).0);
    }

pub no_memory_read : (format : Format) (bytes : List ℕ) → FindsResult format results.NoMemory bytes (Some NoMemory)
no_memory_read format bytes = record { fitting = record { valid = tt; fits = tt }; only = only_no_memory format bytes (Some NoMemory) (λ fit e. refl) }

pub matched_unnamed : (format : Format) (bytes : List ℕ) → IsUnnamed format bytes → FindsResult format results.Matched bytes None
matched_unnamed format bytes none =
    record { fitting = tt; only = only_matched format bytes None (λ model side fit e. absurd (none model (line (side_line side) []) fit.fits e)) }

pub no_matched : (format : Format) (bytes behind : List ℕ) (m : Option ModelName) → IsNamed format bytes m behind → NoSide behind → FindsResult format results.Matched bytes None
no_matched format bytes behind m same none =
    record { fitting = tt; only = only_matched format bytes None (λ model side fit e. absurd (none side ([], (same model (line (side_line side) []) fit.fits e).1))) }

pub matched_read :
    (format : Format) (bytes behind rest : List ℕ) (m : Option ModelName) (s : Side) → Names format m → IsNamed format bytes m behind → behind ≡ line (side_line s) rest
    → FindsResult format results.Matched bytes (Some (Matched m s))
matched_read format bytes behind rest m s names same is =
    record {
      fitting = record { valid = tt; fits = names };
      only =
          only_matched format bytes (Some (Matched m s)) (λ model side fit e.
          let a = same model (line (side_line side) []) fit.fits e in
          let b = sides_apart s side rest [] (sym is ∙ a.1) in
          ap (λ k. Some (Matched k s)) a.0 ∙ ap (λ k. Some (Matched model k)) b.side);
    }

pub no_run_unnamed : (format : Format) (bytes : List ℕ) → IsUnnamed format bytes → FindsResult format results.NoRun bytes None
no_run_unnamed format bytes none =
    record { fitting = tt; only = only_no_run format bytes None (λ model label fit e. absurd (none model (field (codes "label") (decimal label) []) fit.fits e)) }

pub no_label : (format : Format) (bytes behind : List ℕ) (m : Option ModelName) → IsNamed format bytes m behind → NoShort (codes "label: ") behind → FindsResult format results.NoRun bytes None
no_label format bytes behind m same none =
    record {
      fitting = tt;
      only = only_no_run format bytes None (λ model label fit e. absurd (none label [] fit.valid (same model (field (codes "label") (decimal label) []) fit.fits e).1));
    }

pub no_run_read :
    (format : Format) (bytes behind rest : List ℕ) (m : Option ModelName) (l : ℕ) → l < 2 ^ 32 → Names format m → IsNamed format bytes m behind → OneShort (codes "label: ") behind l rest
    → FindsResult format results.NoRun bytes (Some (NoRun m l))
no_run_read format bytes behind rest m l small names same short =
    record {
      fitting = record { valid = small; fits = names };
      only =
          only_no_run format bytes (Some (NoRun m l)) (λ model label fit e.
          let a = same model (field (codes "label") (decimal label) []) fit.fits e in
          ap (λ k. Some (NoRun k l)) a.0 ∙ ap (λ k. Some (NoRun model k)) (short label [] fit.valid a.1).0);
    }

pub ruleset for_equivalent_like = (no_equivalent, equivalent_read)

pub ruleset for_stopped_like = (no_stop, stop_read)

pub ruleset for_accepted_like = (none_accepted, accepted_read)

pub ruleset for_no_memory_like = (no_memory_read)

pub ruleset for_matched_like = (matched_unnamed, no_matched, matched_read)

pub ruleset for_no_run_like = (no_run_unnamed, no_label, no_run_read)
