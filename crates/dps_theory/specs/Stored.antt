-- How a proof stores rules and theories: as pairs and lists.
use Rattle.std.specs.Prelude.{List, refl}
use Rattle.std.specs.Coded.{Coded, code_by, coded×, coded_list}
use Rattle.dps_terms.specs.Tree.{Tree}
use Rattle.dps_signature.specs.Signature.{Shape}
use Rattle.dps_terms.specs.Stored.{tree_code}
use Rattle.dps_signature.specs.StoredSignature.{shape_code}
use Rattle.dps_theory.specs.Theory.{Rule, Theory}

abbrev pub rule_code : Coded Rule
rule_code =
    code_by (Tree × Tree) (coded× tree_code tree_code) (λ r. (r.left, r.right)) (λ p. record { left = p.0; right = p.1 }) (λ _. refl)

abbrev pub theory_code : Coded Theory
theory_code =
    code_by
    (List Shape × List Rule)
    (coded× (coded_list shape_code) (coded_list rule_code))
    (λ theory. (theory.shapes, theory.rules))
    (λ p. record { shapes = p.0; rules = p.1 })
    (λ _. refl)
