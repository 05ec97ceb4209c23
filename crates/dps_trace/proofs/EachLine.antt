-- The lines of a trace, one by one.
use Rattle.std.proofs.Common.{◌≡◌, ℕ, ◌+◌, ◌<◌, List, [], ◌∷◌, ◌++◌, Option, Some, None, length, get_or, map, drop, refl, sym, ap, ◌∙◌, append_assoc}
use Rattle.std.proofs.lemmas.List.{drop_more, append-nil}
use Rattle.dps_branch.specs.declared.Side.{Side}
use Rattle.dps_branch.specs.declared.Side.TheVariants.{Left, Right}
use Rattle.dps_signature.specs.Signature.{Signature}
use Rattle.dps_process.specs.declared.label.Label.{Label}
use Rattle.dps_process.specs.Labels.{label_of}
use Rattle.dps_trace.specs.declared.model.ModelName.{ModelName}
use Rattle.dps_trace.specs.declared.model.ModelName.TheVariants.{Private, Classic, Eavesdrop}
use Rattle.dps_trace.specs.Text.{line, label_text, label_lines, side_line, heading, trace_text}
use Rattle.dps_trace.specs.Traces.{Trace}

line_behind : (before text rest : List ℕ) → ((before ++ text) ++ (10 ∷ [])) ++ rest ≡ before ++ (text ++ 10 ∷ rest)
line_behind before text rest = simp append_assoc

-- one more label
pub line_more :
    (signature : Signature) (items : List Label) (i : ℕ) (label : Label) (before middle after total : List ℕ) → i < length items → label ≡ get_or items i label
    → middle ≡ before ++ label_text signature (label_of label)
    → after ≡ middle ++ (10 ∷ [])
    → before ++ label_lines signature (map label_of (drop i items)) [] ≡ total
    → after ++ label_lines signature (map label_of (drop (i + 1) items)) [] ≡ total
line_more signature items i label before middle after total h at d e t =
    let rest = label_lines signature (map label_of (drop (i + 1) items)) [] in
    let left : drop i items ≡ label ∷ drop (i + 1) items = drop_more items i label h ∙ ap (λ x. x ∷ drop (i + 1) items) (sym at) in
    ap (λ x. x ++ rest) (e ∙ ap (λ x. x ++ (10 ∷ [])) d)
    ∙ (line_behind before (label_text signature (label_of label)) rest ∙ (sym (ap (λ x. before ++ label_lines signature (map label_of x) []) left) ∙ t))

-- no label is left
pub lines_done : (signature : Signature) (text total : List ℕ) → text ++ label_lines signature (map label_of []) [] ≡ total → text ≡ total
lines_done signature text total t = sym (append-nil text) ∙ t

heading_on : (model : Option ModelName) (rest : List ℕ) → heading model [] ++ rest ≡ heading model rest
heading_on None rest = refl
heading_on (Some Private) rest = refl
heading_on (Some Classic) rest = refl
heading_on (Some Eavesdrop) rest = refl

side_on : (side : Side) (rest : List ℕ) → (side_line side ++ 10 ∷ []) ++ rest ≡ line (side_line side) rest
side_on Left rest = refl
side_on Right rest = refl

-- the heading, the side and the labels
pub whole_text :
    (signature : Signature) (trace : Trace) (first second text : List ℕ) → first ≡ heading trace.model []
    → second ≡ first ++ (side_line trace.side ++ 10 ∷ [])
    → text ≡ second ++ label_lines signature trace.labels []
    → text ≡ trace_text signature trace
whole_text signature trace first second text d e f =
    let lines = label_lines signature trace.labels [] in
    f ∙ ap (λ x. x ++ lines) (e ∙ ap (λ x. x ++ (side_line trace.side ++ 10 ∷ [])) d)
    ∙ append_assoc (heading trace.model []) (side_line trace.side ++ 10 ∷ []) lines
    ∙ ap (λ x. heading trace.model [] ++ x) (side_on trace.side lines)
    ∙ heading_on trace.model (line (side_line trace.side) lines)
