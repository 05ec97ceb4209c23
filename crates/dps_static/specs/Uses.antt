-- Uses of rules over kept trees: ways that build the two sides of a rule's generic instance.
use Rattle.std.specs.Prelude.{◌⊎◌, ℕ, List, Contains}
use Rattle.dps_terms.specs.Tree.{Tree}
use Rattle.dps_terms.specs.Replace.{substitute}
use Rattle.dps_terms.specs.Variables.{variables}
use Rattle.dps_theory.specs.Theory.{Rule, Theory, HasRule}
use Rattle.dps_static.specs.Ways.{Builds, Composes, IsNotComposed}
use Rattle.dps_static.specs.Generic.{generic}
use Rattle.dps_static.specs.Binding.{BindsParts, CoversLeft}
use Rattle.dps_static.specs.declared.uses.RuleUse.{RuleUse}

-- one way composes the left side, and the other builds the right side
pub record IsUse (kept : List Tree) (rule : Rule) (s : List (ℕ × Tree)) (one : RuleUse) : Type 0 where
  pub composes : Composes kept (substitute (generic s) rule.left) one.left
  pub builds : Builds kept (substitute (generic s) rule.right) one.right

-- a use of some rule of the theory, with parts of kept trees for variables
pub record IsUseOf (theory : Theory) (kept : List Tree) (one : RuleUse) : Type 0 where
  pub rule : Rule
  pub listed : HasRule theory rule
  pub by : List (ℕ × Tree)
  pub parts : BindsParts kept (variables rule.left) by
  pub is_use : IsUse kept rule by one

-- one of the uses is that of the rule with s
pub record HasUse (kept : List Tree) (uses : List RuleUse) (rule : Rule) (s : List (ℕ × Tree)) : Type 0 where
  pub one : RuleUse
  pub listed : Contains uses one
  pub is_use : IsUse kept rule s one

-- The substitutions that were found cover the left side of the rule. With each of them the left side is not composed, or the
-- rule has its use.
pub record HasRuleUses (kept : List Tree) (uses : List RuleUse) (rule : Rule) : Type 0 where
  pub found : List (List (ℕ × Tree))
  pub covers : CoversLeft kept rule.left found
  pub uses_of : (s : List (ℕ × Tree)) → Contains found s → IsNotComposed kept (substitute (generic s) rule.left) ⊎ HasUse kept uses rule s

-- all uses of the theory's rules over the kept trees
pub record AreUsesOf (theory : Theory) (kept : List Tree) (uses : List RuleUse) : Type 0 where
  pub each : (one : RuleUse) → Contains uses one → IsUseOf theory kept one
  pub all : (rule : Rule) → HasRule theory rule → HasRuleUses kept uses rule
