-- How a proof stores cases: as pairs and lists.
use Rattle.std.specs.Prelude.{ℕ, List, refl}
use Rattle.std.specs.Coded.{Coded, code_by, coded×, coded_list, coded_ℕ}
use Rattle.dps_terms.specs.Tree.{Tree}
use Rattle.dps_terms.specs.Stored.{tree_code}
use Rattle.dps_symeval.specs.Cases.{Case, Choices}

abbrev pub equations_code : Coded (List (Tree × Tree))
equations_code = coded_list (coded× tree_code tree_code)

abbrev pub case_code : Coded Case
case_code =
    code_by
    (List (Tree × Tree) × Tree)
    (coded× equations_code tree_code)
    (λ c. (c.equations, c.result))
    (λ p. record { equations = p.0; result = p.1 })
    (λ _. refl)

abbrev pub choices_code : Coded Choices
choices_code =
    code_by
    (List (Tree × Tree) × (List Tree × ℕ))
    (coded× equations_code (coded× (coded_list tree_code) coded_ℕ))
    (λ c. (c.equations, (c.results, c.next)))
    (λ p. record { equations = p.0; results = p.1.0; next = p.1.1 })
    (λ _. refl)
