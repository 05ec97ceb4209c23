-- How a proof stores the processes that a file defines: as pairs.
use Rattle.std.specs.Prelude.{ℕ, List, refl}
use Rattle.std.specs.Coded.{Coded, code_by, coded×, coded_list, coded_ℕ}
use Rattle.dps_scopes.specs.Body.{Body}
use Rattle.dps_scopes.specs.Definition.{Definition}
use Rattle.dps_scopes.specs.StoredBody.{body_code}

abbrev pub definition_code : Coded Definition
definition_code =
    code_by
    (List ℕ × (ℕ × Body))
    (coded× (coded_list coded_ℕ) (coded× coded_ℕ body_code))
    (λ d. (d.name, (d.parameters, d.body)))
    (λ p. record { name = p.0; parameters = p.1.0; body = p.1.1 })
    (λ _. refl)
