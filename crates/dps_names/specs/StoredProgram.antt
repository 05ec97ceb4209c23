-- How a proof stores programs: as pairs and lists.
use Rattle.std.specs.Prelude.{ℕ, List, refl}
use Rattle.std.specs.Coded.{Coded, code_by, coded×, coded_list, coded_ℕ}
use Rattle.dps_lex.specs.declared.vocabulary.Place.{Place}
use Rattle.dps_signature.specs.Signature.{Signature}
use Rattle.dps_theory.specs.Theory.{Rule}
use Rattle.dps_theory.specs.Stored.{rule_code}
use Rattle.dps_scopes.specs.StoredBody.{body_code}
use Rattle.dps_scopes.specs.StoredDefinition.{definition_code}
use Rattle.dps_signature.specs.StoredSignature.{signature_code}
use Rattle.dps_names.specs.declared.program.Side.{Side}
use Rattle.dps_names.specs.Program.{Body, Definition, WrittenRule, Program}

abbrev pub place_code : Coded Place
place_code = code_by (ℕ × ℕ) (coded× coded_ℕ coded_ℕ) (λ p. (p.line, p.column)) (λ p. record { line = p.0; column = p.1 }) (λ _. refl)

abbrev pub written_rule_code : Coded WrittenRule
written_rule_code =
    code_by
    (Rule × (Place × List (List ℕ)))
    (coded× rule_code (coded× place_code (coded_list (coded_list coded_ℕ))))
    (λ r. (r.rule, (r.place, r.variables)))
    (λ p. record { rule = p.0; place = p.1.0; variables = p.1.1 })
    (λ _. refl)

abbrev pub side_code : Coded Side
side_code =
    code_by (Body × Place) (coded× body_code place_code) (λ s. (s.body, s.place)) (λ p. record { body = p.0; place = p.1 }) (λ _. refl)

abbrev pub program_code : Coded Program
program_code =
    code_by
    (Signature × (List WrittenRule × (List Definition × (Side × Side))))
    (coded× signature_code (coded× (coded_list written_rule_code) (coded× (coded_list definition_code) (coded× side_code side_code))))
    (λ p. (p.signature, (p.rules, (p.definitions, (p.left, p.right)))))
    (λ t. record { signature = t.0; rules = t.1.0; definitions = t.1.1.0; left = t.1.1.1.0; right = t.1.1.1.1 })
    (λ _. refl)
