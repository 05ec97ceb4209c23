-- Texts of reports, written line by line.
use Rattle.std.proofs.Common.{◌≡◌, ℕ, ◌+◌, ◌<◌, List, [], ◌∷◌, ◌++◌, Option, Some, None, length, get_or, drop, codes, refl, sym, ap, ◌∙◌, append_assoc}
use Rattle.std.proofs.lemmas.List.{drop_more}
use Rattle.dps_trace.specs.declared.model.ModelName.{ModelName}
use Rattle.dps_trace.specs.declared.model.ModelName.TheVariants.{Private, Classic, Eavesdrop}
use Rattle.dps_report.specs.Reports.{if_named, each_test}

-- the model's line, and the rest
pub named_on : (model : Option ModelName) (rest : List ℕ) → if_named model [] ++ rest ≡ if_named model rest
named_on None rest = refl
named_on (Some Private) rest = refl
named_on (Some Classic) rest = refl
named_on (Some Eavesdrop) rest = refl

test_behind : (before test rest : List ℕ) → (((before ++ codes "test: ") ++ test) ++ (10 ∷ [])) ++ rest ≡ before ++ (codes "test: " ++ (test ++ (10 ∷ rest)))
test_behind before test rest = simp append_assoc

-- one more test
pub test_more :
    (items : List (List ℕ)) (i : ℕ) (test : List ℕ) (before first second after total : List ℕ) → i < length items → test ≡ get_or items i test
    → first ≡ before ++ codes "test: " → second ≡ first ++ test → after ≡ second ++ (10 ∷ [])
    → before ++ each_test (drop i items) ≡ total → after ++ each_test (drop (i + 1) items) ≡ total
test_more items i test before first second after total h at d e f t =
    let rest = each_test (drop (i + 1) items) in
    let left : drop i items ≡ test ∷ drop (i + 1) items = drop_more items i test h ∙ ap (λ x. x ∷ drop (i + 1) items) (sym at) in
    ap (λ x. x ++ rest) (f ∙ ap (λ x. x ++ (10 ∷ [])) (e ∙ ap (λ x. x ++ test) d))
    ∙ (test_behind before test rest ∙ (sym (ap (λ x. before ++ each_test x) left) ∙ t))
