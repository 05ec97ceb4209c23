-- Whether rules are accepted is decided, for all rules.
use Rattle.std.specs.Prelude.{List, ◌⊎◌}
use Rattle.dps_signature.specs.Signature.{Shape}
use Rattle.dps_theory.specs.Theory.{Rule, IsAccepted}
use Rattle.dps_theory.specs.Checking.{HaveFault}

-- rules make an accepted theory by themselves, or have a first fault
abbrev pub RulesAreDecided : Type 0
RulesAreDecided = (shapes : List Shape) (rules : List Rule) → IsAccepted (record { shapes = shapes; rules = rules }) ⊎ HaveFault shapes rules
