-- The lines of a trace, one by one.
use Rattle.std.proofs.Common.{◌≡◌, ℕ, ◌+◌, ◌<◌, List, [], ◌∷◌, ◌++◌, length, get_or, drop, sym, ap, ◌∙◌, append_assoc}
use Rattle.std.proofs.lemmas.List.{drop_more}
use Rattle.dps_signature.specs.Signature.{Signature}
use Rattle.dps_process.specs.Steps.{outputs}
use Rattle.dps_tree.specs.Words.{outputs_from}
use Rattle.dps_judge.specs.Traces.{label_text, label_lines}

line_behind : (before line rest : List ℕ) → (before ++ (line ++ 10 ∷ [])) ++ rest ≡ before ++ (line ++ 10 ∷ rest)
line_behind before line rest = simp append_assoc

-- one more output
pub line_more :
    (signature : Signature) (items : List ℕ) (i c : ℕ) (before after total : List ℕ) → i < length items → c ≡ get_or items i c
    → after ≡ before ++ (label_text signature (outputs c (i + 1)) ++ 10 ∷ [])
    → before ++ label_lines signature (outputs_from (i + 1) (drop i items)) ≡ total
    → after ++ label_lines signature (outputs_from (i + 1 + 1) (drop (i + 1) items)) ≡ total
line_more signature items i c before after total h at e t =
    let rest = label_lines signature (outputs_from (i + 1 + 1) (drop (i + 1) items)) in
    let left : drop i items ≡ c ∷ drop (i + 1) items = drop_more items i c h ∙ ap (λ x. x ∷ drop (i + 1) items) (sym at) in
    ap (λ x. x ++ rest) e ∙ (line_behind before (label_text signature (outputs c (i + 1))) rest ∙ (sym (ap (λ x. before ++ label_lines signature (outputs_from (i + 1) x)) left) ∙ t))
