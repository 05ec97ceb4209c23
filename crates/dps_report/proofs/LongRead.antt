-- Outcomes with a path, a trace's text or a cause, read from the lines behind the result's.
use Rattle.std.proofs.Common.{◌≡◌, ◌≢◌, ℕ, ◌<◌, ◌^◌, List, [], ◌∷◌, ◌++◌, Option, Some, None, ap, sym, subst, ◌∙◌, codes, arith}
use Rattle.std.specs.Fmt.{decimal}
use Rattle.std.specs.Str.{IsUtf8}
use Rattle.std.proofs.lemmas.List.Elements.{All-head, All-tail}
use Rattle.std.proofs.lemmas.Option.{none-some}
use Rattle.dps_path.specs.Text.{path_text, parts_text, IsPath}
use Rattle.dps_trace.specs.declared.model.ModelName.{ModelName}
use Rattle.dps_trace.specs.Cut.{IsWithout}
use Rattle.dps_trace.specs.Text.{line, heading}
use Rattle.dps_trace.proofs.Apart.{headings_apart}
use Rattle.dps_report.specs.declared.format.Format.{Format}
use Rattle.dps_report.specs.declared.outcome.Outcome.TheVariants.{NotEquivalent, Spent}
use Rattle.dps_report.specs.declared.results.ResultName.TheVariants as results
use Rattle.dps_report.specs.Outcomes.{IsFitting, IsTraceOf, EndsLine, HasTraceLines, Names}
use Rattle.dps_report.specs.Reports.{field, behind_result}
use Rattle.dps_report.specs.Finding.{IsField, FindsResult}
use Rattle.dps_report.proofs.FieldsRead.{one_field, unbroken_digits}
use Rattle.dps_report.proofs.Only.{only_not_equivalent, only_spent}
use Rattle.dps_report.proofs.ShortRead.{IsUnnamed, IsNamed}

abbrev pub NoField : List ℕ → List ℕ → Type 0
NoField word bytes = (value rest : List ℕ) → ¬ IsField word bytes value rest

-- no number is read behind this word, and this one alone
abbrev pub NoNumber : List ℕ → List ℕ → Type 0
NoNumber word bytes = (n : ℕ) (rest : List ℕ) → n < 2 ^ 64 → bytes ≡ word ++ line (decimal n) rest → ⊥

abbrev pub OneNumber : List ℕ → List ℕ → ℕ → List ℕ → Type 0
OneNumber word bytes m behind = (n : ℕ) (rest : List ℕ) → n < 2 ^ 64 → bytes ≡ word ++ line (decimal n) rest → (m ≡ n) × (behind ≡ rest)

-- the only path with this text
abbrev pub OnlyPath : List ℕ → Option (List ℕ) → Type 0
OnlyPath text found = (p : List ℕ) → IsPath p → path_text p ≡ text → found ≡ Some p

-- a text stands on one line

without-append : (x : ℕ) (xs ys : List ℕ) → IsWithout x xs → IsWithout x ys → IsWithout x (xs ++ ys)
without-append x [] ys h k = k
without-append x (b ∷ xs) ys h k = (h.0, without-append x xs ys h.1 k)

slash_is_none : (bs : List ℕ) → IsWithout 10 bs → IsWithout 10 (codes "/" ++ bs)
slash_is_none bs h = (λ e. omega (arith, e), h)

unbroken_parts : (path : List ℕ) → IsPath path → IsWithout 10 (parts_text path)
unbroken_parts [] h = tt
unbroken_parts (n ∷ path) h =
    let small : n < 2 ^ 32 = All-head (λ k. k < 2 ^ 32) n path h in
    slash_is_none (decimal n ++ parts_text path)
    (without-append 10 (decimal n) (parts_text path) (unbroken_digits n (omega (arith, small))) (unbroken_parts path (All-tail (λ k. k < 2 ^ 32) n path h)))

unbroken_path : (path : List ℕ) → IsPath path → IsWithout 10 (path_text path)
unbroken_path [] h = slash_is_none [] tt
unbroken_path (n ∷ path) h = unbroken_parts (n ∷ path) h

-- a spent budget

module _ (format : Format) (bytes : List ℕ) where
  -- what stands at the node's line
  spent_named :
      (behind : List ℕ) (m model : Option ModelName) (node : List ℕ) (steps : ℕ) → IsNamed format bytes m behind → IsFitting format (Spent model node steps) → IsPath node
      → bytes ≡ behind_result (Spent model node steps) → (m ≡ model) × IsField (codes "node: ") behind (path_text node) (field (codes "steps") (decimal steps) [])
  spent_named behind m model node steps same fit path e =
      let a = same model (field (codes "node") (path_text node) (field (codes "steps") (decimal steps) [])) fit.fits e in
      (a.0, record { whole = a.1; one_line = unbroken_path node path })

  pub spent_unnamed : IsUnnamed format bytes → FindsResult format results.Spent bytes None
  spent_unnamed none =
      record {
        fitting = tt;
        only =
            only_spent format bytes None (λ model node steps fit path e.
            absurd (none model (field (codes "node") (path_text node) (field (codes "steps") (decimal steps) [])) fit.fits e));
      }

  pub no_node : (behind : List ℕ) (m : Option ModelName) → IsNamed format bytes m behind → NoField (codes "node: ") behind → FindsResult format results.Spent bytes None
  no_node behind m same none =
      record {
        fitting = tt;
        only =
            only_spent format bytes None (λ model node steps fit path e.
            absurd (none (path_text node) (field (codes "steps") (decimal steps) []) (spent_named behind m model node steps same fit path e).1));
      }

  module _ (behind value rest : List ℕ) (m : Option ModelName) (same : IsNamed format bytes m behind) (here : IsField (codes "node: ") behind value rest) where
    spent_here :
        (model : Option ModelName) (node : List ℕ) (steps : ℕ) → IsFitting format (Spent model node steps) → IsPath node → bytes ≡ behind_result (Spent model node steps)
        → (m ≡ model) × (value ≡ path_text node) × (rest ≡ field (codes "steps") (decimal steps) [])
    spent_here model node steps fit path e =
        let a = spent_named behind m model node steps same fit path e in
        let b = one_field (codes "node: ") behind value (path_text node) rest (field (codes "steps") (decimal steps) []) here a.1 in
        (a.0, b.0, b.1)

    pub no_steps : NoNumber (codes "steps: ") rest → FindsResult format results.Spent bytes None
    no_steps none =
        record {
          fitting = tt;
          only = only_spent format bytes None (λ model node steps fit path e. absurd (none steps [] fit.valid (spent_here model node steps fit path e).2));
        }

    pub spent_without_path : OnlyPath value None → FindsResult format results.Spent bytes None
    spent_without_path only =
        record {
          fitting = tt;
          only = only_spent format bytes None (λ model node steps fit path e. absurd (none-some node (only node path (sym (spent_here model node steps fit path e).1))));
        }

    pub spent_read :
        (k : ℕ) (after found : List ℕ) → k < 2 ^ 64 → Names format m → OneNumber (codes "steps: ") rest k after → OnlyPath value (Some found)
        → FindsResult format results.Spent bytes (Some (Spent m found k))
    spent_read k after found small names number only =
        record {
          fitting = record { valid = small; fits = names };
          only =
              only_spent format bytes (Some (Spent m found k)) (λ model node steps fit path e.
              let a = spent_here model node steps fit path e in
              let n : ◌≡◌ {A = Option (List ℕ)} (Some found) (Some node) = only node path (sym a.1) in
              let found_is : found ≡ node = cc in
              ap (λ x. Some (Spent x found k)) a.0 ∙ ap (λ x. Some (Spent model x k)) found_is ∙ ap (λ x. Some (Spent model node x)) (number steps [] fit.valid a.2).0);
        }

-- an attack with its trace

-- the only model that the lines name as the format does
abbrev pub OnlyModel : Format → List ℕ → Option (Option ModelName) → Type 0
OnlyModel format trace found = (model : Option ModelName) → Names format model → HasTraceLines model trace → found ≡ Some model

pub no_heading :
    (format : Format) (trace : List ℕ) → ((model : Option ModelName) (rest : List ℕ) → trace ≢ heading model rest) → OnlyModel format trace None
no_heading format trace none model names lines = absurd (none model lines.begins.0 lines.begins.1)

pub other_heading :
    (format : Format) (trace rest : List ℕ) (m : Option ModelName) → trace ≡ heading m rest → (Names format m → EndsLine trace → ⊥) → OnlyModel format trace None
other_heading format trace rest m e none model names lines =
    let a = headings_apart m model rest lines.begins.0 (sym e ∙ lines.begins.1) in
    absurd (none (subst (Names format) (sym a.model) names) lines.lines)

pub heading_read : (format : Format) (trace rest : List ℕ) (m : Option ModelName) → trace ≡ heading m rest → OnlyModel format trace (Some m)
heading_read format trace rest m e model names lines =
    let a = headings_apart m model rest lines.begins.0 (sym e ∙ lines.begins.1) in
    ap (λ k. Some k) a.model

pub heading_lines_read : (trace rest : List ℕ) (m : Option ModelName) → trace ≡ heading m rest → EndsLine trace → HasTraceLines m trace
heading_lines_read trace rest m e ends = record { begins = (rest, e); lines = ends }

module _ (format : Format) (bytes : List ℕ) where
  pub no_node_of_attack : NoField (codes "node: ") bytes → FindsResult format results.NotEquivalent bytes None
  no_node_of_attack none =
      record {
        fitting = tt;
        only = only_not_equivalent format bytes None (λ model node trace fit path e. absurd (none (path_text node) trace (record { whole = e; one_line = unbroken_path node path })));
      }

  module _ (value trace : List ℕ) (here : IsField (codes "node: ") bytes value trace) where
    attack_here :
        (model : Option ModelName) (node text : List ℕ) → IsPath node → bytes ≡ behind_result (NotEquivalent model node text) → (value ≡ path_text node) × (trace ≡ text)
    attack_here model node text path e = one_field (codes "node: ") bytes value (path_text node) trace text here (record { whole = e; one_line = unbroken_path node path })

    trace_of : (model : Option ModelName) (node text : List ℕ) → IsFitting format (NotEquivalent model node text) → IsPath node → bytes ≡ behind_result (NotEquivalent model node text) → IsTraceOf model trace
    trace_of model node text fit path e = subst (IsTraceOf model) (sym (attack_here model node text path e).1) fit.valid

    pub no_model_of_trace : OnlyModel format trace None → FindsResult format results.NotEquivalent bytes None
    no_model_of_trace only =
        record {
          fitting = tt;
          only = only_not_equivalent format bytes None (λ model node text fit path e. absurd (none-some model (only model fit.fits (trace_of model node text fit path e).trace)));
        }

    pub attack_without_path : OnlyPath value None → FindsResult format results.NotEquivalent bytes None
    attack_without_path only =
        record {
          fitting = tt;
          only = only_not_equivalent format bytes None (λ model node text fit path e. absurd (none-some node (only node path (sym (attack_here model node text path e).0))));
        }

    pub no_text_of_trace : (IsUtf8 trace → ◌≡◌ {A = Option (List ℕ)} None (Some trace)) → FindsResult format results.NotEquivalent bytes None
    no_text_of_trace only =
        record {
          fitting = tt;
          only = only_not_equivalent format bytes None (λ model node text fit path e. absurd (none-some trace (only (trace_of model node text fit path e).utf8)));
        }

    pub attack_with_trace :
        (m : Option ModelName) (found text : List ℕ) → Names format m → HasTraceLines m trace → OnlyModel format trace (Some m) → OnlyPath value (Some found) → text ≡ trace → IsUtf8 trace
        → FindsResult format results.NotEquivalent bytes (Some (NotEquivalent m found text))
    attack_with_trace m found text names lines model_is path_is text_is utf8 =
        record {
          fitting = record { valid = subst (IsTraceOf m) (sym text_is) (record { trace = lines; utf8 = utf8 }); fits = names };
          only =
              only_not_equivalent format bytes (Some (NotEquivalent m found text)) (λ model node other fit path e.
              let a = attack_here model node other path e in
              let n : ◌≡◌ {A = Option (List ℕ)} (Some found) (Some node) = path_is node path (sym a.0) in
              let found_is : found ≡ node = cc in
              let k : ◌≡◌ {A = Option (Option ModelName)} (Some m) (Some model) = model_is model fit.fits (trace_of model node other fit path e).trace in
              let m_is : m ≡ model = cc in
              ap (λ x. Some (NotEquivalent x found text)) m_is ∙ ap (λ x. Some (NotEquivalent model x text)) found_is ∙ ap (λ x. Some (NotEquivalent model node x)) (text_is ∙ a.1));
        }

pub ruleset for_spent_like = (spent_unnamed, no_node, no_steps, spent_without_path, spent_read)

pub ruleset for_model_of_trace = (no_heading, other_heading, heading_read, heading_lines_read)

pub ruleset for_not_equivalent_like = (no_node_of_attack, no_model_of_trace, attack_without_path, no_text_of_trace, attack_with_trace)
