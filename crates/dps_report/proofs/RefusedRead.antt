-- A refused file, read from the lines behind the result's.
use Rattle.std.proofs.Common.{◌≡◌, ℕ, ◌<◌, ◌^◌, List, [], ◌++◌, Option, Some, None, ap, sym, subst, ◌∙◌, codes}
use Rattle.std.specs.Str.{IsUtf8}
use Rattle.std.proofs.lemmas.Option.{none-some}
use Rattle.dps_trace.specs.Text.{line}
use Rattle.dps_report.specs.declared.format.Format.{Format}
use Rattle.dps_report.specs.declared.outcome.Outcome.TheVariants.{Refused}
use Rattle.dps_report.specs.declared.results.ResultName.TheVariants as results
use Rattle.dps_report.specs.Outcomes.{IsFitting, IsCause}
use Rattle.dps_report.specs.Reports.{field, place_text, behind_result}
use Rattle.dps_report.specs.Finding.{IsField, FindsResult}
use Rattle.dps_report.proofs.FieldsRead.{one_field}
use Rattle.dps_report.proofs.LongRead.{NoField}
use Rattle.dps_report.proofs.Only.{only_refused}
use Rattle.dps_report.proofs.ShortRead.{NoShort, OneShort}

-- no place is read
abbrev pub NoPlace : List ℕ → Type 0
NoPlace bytes = (at column : ℕ) (rest : List ℕ) → at < 2 ^ 32 → column < 2 ^ 32 → bytes ≡ codes "at: " ++ line (place_text at column) rest → ⊥

cause_field : (rest cause : List ℕ) → IsCause cause → rest ≡ field (codes "cause") cause [] → IsField (codes "cause: ") rest cause []
cause_field rest cause h e = record { whole = e; one_line = h.one_line }

module _ (format : Format) (bytes : List ℕ) where
  pub no_file : NoShort (codes "file: ") bytes → FindsResult format results.Refused bytes None
  no_file none =
      record {
        fitting = tt;
        only =
            only_refused format bytes None (λ file at column cause fit e.
            absurd (none file (field (codes "at") (place_text at column) (field (codes "cause") cause [])) fit.valid.0 e));
      }

  module _ (behind : List ℕ) (f : ℕ) (file_is : OneShort (codes "file: ") bytes f behind) where
    at_place :
        (file at column : ℕ) (cause : List ℕ) → IsFitting format (Refused file at column cause) → bytes ≡ behind_result (Refused file at column cause)
        → (f ≡ file) × (behind ≡ field (codes "at") (place_text at column) (field (codes "cause") cause []))
    at_place file at column cause fit e = file_is file (field (codes "at") (place_text at column) (field (codes "cause") cause [])) fit.valid.0 e

    pub no_place_there : NoPlace behind → FindsResult format results.Refused bytes None
    no_place_there none =
        record {
          fitting = tt;
          only =
              only_refused format bytes None (λ file at column cause fit e.
              absurd (none at column (field (codes "cause") cause []) fit.valid.1 fit.valid.2 (at_place file at column cause fit e).1));
        }

    module _ (rest : List ℕ) (l k : ℕ) (place_is : (at column : ℕ) (after : List ℕ) → at < 2 ^ 32 → column < 2 ^ 32 → behind ≡ codes "at: " ++ line (place_text at column) after → (l ≡ at) × (k ≡ column) × (rest ≡ after)) where
      at_cause :
          (file at column : ℕ) (cause : List ℕ) → IsFitting format (Refused file at column cause) → bytes ≡ behind_result (Refused file at column cause)
          → (l ≡ at) × (k ≡ column) × (rest ≡ field (codes "cause") cause [])
      at_cause file at column cause fit e = place_is at column (field (codes "cause") cause []) fit.valid.1 fit.valid.2 (at_place file at column cause fit e).1

      pub no_cause : NoField (codes "cause: ") rest → FindsResult format results.Refused bytes None
      no_cause none =
          record {
            fitting = tt;
            only =
                only_refused format bytes None (λ file at column cause fit e.
                absurd (none cause [] (cause_field rest cause fit.valid.3 (at_cause file at column cause fit e).2)));
          }

      module _ (value after : List ℕ) (here : IsField (codes "cause: ") rest value after) where
        same_cause :
            (file at column : ℕ) (cause : List ℕ) → IsFitting format (Refused file at column cause) → bytes ≡ behind_result (Refused file at column cause) → value ≡ cause
        same_cause file at column cause fit e =
            (one_field (codes "cause: ") rest value cause after [] here (cause_field rest cause fit.valid.3 (at_cause file at column cause fit e).2)).0

        pub no_text_of_cause : (IsUtf8 value → ◌≡◌ {A = Option (List ℕ)} None (Some value)) → FindsResult format results.Refused bytes None
        no_text_of_cause only =
            record {
              fitting = tt;
              only =
                  only_refused format bytes None (λ file at column cause fit e.
                  absurd (none-some value (only (subst IsUtf8 (sym (same_cause file at column cause fit e)) fit.valid.3.utf8))));
            }

        pub refused_read :
            (text : List ℕ) → f < 2 ^ 32 → l < 2 ^ 32 → k < 2 ^ 32 → text ≡ value → IsUtf8 value → FindsResult format results.Refused bytes (Some (Refused f l k text))
        refused_read text f_small l_small k_small text_is utf8 =
            let cause_is : IsCause text = subst IsCause (sym text_is) (record { one_line = here.one_line; utf8 = utf8 }) in
            record {
              fitting = record { valid = (f_small, l_small, k_small, cause_is); fits = tt };
              only =
                  only_refused format bytes (Some (Refused f l k text)) (λ file at column cause fit e.
                  let a = at_place file at column cause fit e in
                  let b = at_cause file at column cause fit e in
                  ap (λ x. Some (Refused x l k text)) a.0 ∙ ap (λ x. Some (Refused file x k text)) b.0 ∙ ap (λ x. Some (Refused file at x text)) b.1
                  ∙ ap (λ x. Some (Refused file at column x)) (text_is ∙ same_cause file at column cause fit e));
            }

pub ruleset for_refused_like = (no_file, no_place_there, no_cause, no_text_of_cause, refused_read)
