-- No text is that of two traces, and none with a fault is that of a trace.
use Rattle.std.proofs.Common.{◌≡◌, ℕ, ◌+◌, List, [], ◌∷◌, Option, Some, None, ap, sym, subst, ◌∙◌, drop, get_or, arith}
use Rattle.dps_signature.specs.Signature.{Signature}
use Rattle.dps_signature.specs.Spelled.{IsSpelled}
use Rattle.dps_process.specs.Steps.{Label}
use Rattle.dps_trace.specs.declared.model.ModelName.{ModelName}
use Rattle.dps_trace.specs.declared.fault.TraceKind.{TraceKind}
use Rattle.dps_trace.specs.declared.fault.TraceKind.TheVariants as kinds
use Rattle.dps_trace.specs.Traces.{Trace}
use Rattle.dps_trace.specs.Text.{line, label_text, label_lines, side_line, model_line, heading, second_header, IsTraceText}
use Rattle.dps_trace.specs.Written.{AreWritten, IsInTurn, outputs_after}
use Rattle.dps_trace.specs.Faults.{HasTraceFault, HasWrongLabel, HasWrongTurn, BeginsOutOfTurn, heading_lines}
use Rattle.dps_trace.proofs.Apart.{Continues, continues, a_line_is_some, lines_apart, all_labels_apart, headings_apart, sides_apart}

module _ (S : Signature) (spelled : IsSpelled S) where
  pub one_trace : (bytes : List ℕ) (t u : Trace) → IsTraceText S t bytes → IsTraceText S u bytes → t ≡ u
  one_trace bytes t u h k =
      let a = headings_apart t.model u.model (line (side_line t.side) (label_lines S t.labels [])) (line (side_line u.side) (label_lines S u.labels [])) (sym h.text ∙ k.text) in
      let b = sides_apart t.side u.side (label_lines S t.labels []) (label_lines S u.labels []) a.rest in
      let c : t.labels ≡ u.labels = all_labels_apart S spelled t.labels u.labels h.written k.written b.rest in
      all_same a.model b.side c
    where
      all_same : t.model ≡ u.model → t.side ≡ u.side → t.labels ≡ u.labels → t ≡ u
      all_same p q r =
          ap (λ m. record { model = m; side = t.side; labels = t.labels }) p
          ∙ ap (λ s. record { model = u.model; side = s; labels = t.labels }) q
          ∙ ap (λ ls. record { model = u.model; side = u.side; labels = ls }) r

  -- a fault of a line of labels is in no lines of labels
  no_wrong_label : (first at : ℕ) (lines : List ℕ) (ls : List Label) → AreWritten S 0 ls → lines ≡ label_lines S ls [] → ¬ HasWrongLabel S first lines at
  no_wrong_label first at lines ls h e w = by_others (continues S spelled 0 w.labels ls w.rest w.written h (sym w.good ∙ e))
    where
      by_case : (m : ℕ) (zs : List Label) → AreWritten S m zs → w.rest ≡ label_lines S zs [] → ⊥
      by_case m [] k f = w.more f
      by_case m (z ∷ zs) k f = w.wrong z k.0 (label_lines S zs [], f)

      by_others : Continues S spelled 0 w.labels ls w.rest → ⊥
      by_others c = by_case (outputs_after 0 w.labels) c.others c.written c.lines

  no_wrong_turn : (first at : ℕ) (lines : List ℕ) (ls : List Label) → AreWritten S 0 ls → lines ≡ label_lines S ls [] → ¬ HasWrongTurn S first lines at
  no_wrong_turn first at lines ls h e w = by_others (continues S spelled 0 w.labels ls w.rest w.written h (sym w.good ∙ e))
    where
      by_case : (m : ℕ) (zs : List Label) → AreWritten S m zs → w.rest ≡ label_lines S zs [] → BeginsOutOfTurn S m w.rest → ⊥
      by_case m [] k f out = a_line_is_some (label_text S out.label) out.rest (sym out.text ∙ f)
      by_case m (z ∷ zs) k f out =
          let both = lines_apart S spelled out.label z out.rest (label_lines S zs []) out.over k.0 (sym out.text ∙ f) in
          out.out_of_turn (subst (IsInTurn m) (sym both.0) k.1)

      by_others : Continues S spelled 0 w.labels ls w.rest → ⊥
      by_others c = by_case (outputs_after 0 w.labels) c.others c.written c.lines w.wrong

  pub faulty_is_none : (bytes : List ℕ) (at : ℕ) (kind : TraceKind) → HasTraceFault S bytes at kind → (t : Trace) → ¬ IsTraceText S t bytes
  faulty_is_none bytes at kinds.NoTrace f t h = f
  faulty_is_none bytes at kinds.Header f t h = by_model t.model h.text
    where
      by_model : (m : Option ModelName) → bytes ≡ heading m (line (side_line t.side) (label_lines S t.labels [])) → ⊥
      by_model None e = f.not_first_format (line (side_line t.side) (label_lines S t.labels []), e)
      by_model (Some m) e = f.not_second_format (line (model_line m) (line (side_line t.side) (label_lines S t.labels [])), e)
  faulty_is_none bytes at kinds.Model f t h = by_model t.model (sym f.header ∙ h.text)
    where
      one_is_two : ◌≡◌ {A = ℕ} 50 49 → ⊥
      one_is_two e = omega (arith, e)

      by_model : (m : Option ModelName) → line second_header f.rest ≡ heading m (line (side_line t.side) (label_lines S t.labels [])) → ⊥
      by_model None e = one_is_two (ap (λ xs. get_or xs 6 0) e)
      by_model (Some m) e = f.no_model m (line (side_line t.side) (label_lines S t.labels []), ap (drop 8) e)
  faulty_is_none bytes at kinds.Side f t h =
      let a = headings_apart f.model t.model f.rest (line (side_line t.side) (label_lines S t.labels [])) (sym f.good ∙ h.text) in
      f.no_side t.side (label_lines S t.labels [], a.rest)
  faulty_is_none bytes at kinds.Label f t h =
      let a = headings_apart f.model t.model (line (side_line f.side) f.lines) (line (side_line t.side) (label_lines S t.labels [])) (sym f.good ∙ h.text) in
      let b = sides_apart f.side t.side f.lines (label_lines S t.labels []) a.rest in
      no_wrong_label (heading_lines f.model + 2) at f.lines t.labels h.written b.rest f.wrong
  faulty_is_none bytes at kinds.Ax f t h =
      let a = headings_apart f.model t.model (line (side_line f.side) f.lines) (line (side_line t.side) (label_lines S t.labels [])) (sym f.good ∙ h.text) in
      let b = sides_apart f.side t.side f.lines (label_lines S t.labels []) a.rest in
      no_wrong_turn (heading_lines f.model + 2) at f.lines t.labels h.written b.rest f.wrong
