-- What a reader expects of the faults of rules. It is the contract of a function of the crate.
use Rattle.std.specs.Prelude.{◌≡◌, ℕ, List}
use Rattle.dps_terms.specs.Tree.{Tree}
use Rattle.dps_signature.specs.Signature.{Shape}
use Rattle.dps_theory.specs.Theory.{Rule}
use Rattle.dps_theory.specs.declared.form.FormFault.{FormFault}
use Rattle.dps_theory.specs.Checking.{IsFirstFault, IsFirstOverlap}

-- Rules have at most one first fault: of one rule by itself, or of one pair of rules.
pub record NoRulesHaveTwoFaults : Type 0 where
  pub forms :
      (shapes : List Shape) (rules : List Rule) (m n : ℕ) (fault other : FormFault)
      → IsFirstFault shapes rules m fault → IsFirstFault shapes rules n other → (m ≡ n) × (fault ≡ other)
  pub form_or_overlap :
      (shapes : List Shape) (rules : List Rule) (n first second : ℕ) (fault : FormFault) (unifier : List (ℕ × Tree))
      → IsFirstFault shapes rules n fault → IsFirstOverlap shapes rules first second unifier → ⊥
  pub overlaps :
      (shapes : List Shape) (rules : List Rule) (k m l n : ℕ) (unifier other : List (ℕ × Tree))
      → IsFirstOverlap shapes rules k m unifier → IsFirstOverlap shapes rules l n other → (k ≡ l) × (m ≡ n)
