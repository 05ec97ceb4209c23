-- How a proof stores what was read of a recipe.
use Rattle.std.specs.Prelude.{ℕ, List, refl}
use Rattle.std.specs.Coded.{Coded, code_by, coded×, coded_list, coded_ℕ}
use Rattle.dps_terms.specs.Tree.{Tree}
use Rattle.dps_terms.specs.Stored.{tree_code}
use Rattle.dps_trace.specs.Scanning.{Reading}

abbrev pub reading_code : Coded Reading
reading_code =
    code_by
    (List ℕ × (ℕ × List Tree))
    (coded× (coded_list coded_ℕ) (coded× coded_ℕ (coded_list tree_code)))
    (λ r. (r.brackets, (r.arity, r.terms)))
    (λ p. record { brackets = p.0; arity = p.1.0; terms = p.1.1 })
    (λ _. refl)
