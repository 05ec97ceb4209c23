-- How a proof stores what a pattern says.
use Rattle.std.specs.Prelude.{ℕ, List, refl}
use Rattle.std.specs.Coded.{Coded, code_by, coded×, coded_list, coded_ℕ}
use Rattle.dps_scopes.specs.declared.body.Step.{Step}
use Rattle.dps_scopes.specs.StoredBody.{step_code}
use Rattle.dps_names.specs.Processes.{Pattern}

abbrev pub pattern_code : Coded Pattern
pattern_code =
    code_by
    (List Step × List (List ℕ))
    (coded× (coded_list step_code) (coded_list (coded_list coded_ℕ)))
    (λ p. (p.steps, p.names))
    (λ t. record { steps = t.0; names = t.1 })
    (λ _. refl)
