-- The theory of a program, and the first flaw of its rules.
use Rattle.std.specs.Prelude.{◌≡◌, ℕ, zero, suc, List, ◌++◌, map, Option, Some, None, slice_get, string_bytes, ⊤}
use Rattle.dps_lex.specs.declared.vocabulary.Place.{Place}
use Rattle.dps_terms.specs.Tree.{Tree}
use Rattle.dps_signature.specs.Signature.{shapes}
use Rattle.dps_theory.specs.Theory.{Rule, Theory}
use Rattle.dps_theory.specs.Projections.{projections}
use Rattle.dps_theory.specs.Checking.{IsFirstFault, IsFirstOverlap}
use Rattle.dps_theory.specs.declared.form.FormFault.{FormFault}
use Rattle.dps_names.specs.Program.{WrittenRule, Program}
use Rattle.dps_rules.specs.Bindings.{bindings_text}
use Rattle.dps_rules.specs.declared.fault.RuleCause.{RuleCause}
use Rattle.dps_rules.specs.declared.fault.RuleCause.TheVariants as written
use Rattle.dps_rules.specs.declared.fault.RuleRefusal.{RuleRefusal}
use Rattle.dps_rules.specs.declared.fault.RuleRefusal.TheVariants.{Fault, Memory}

-- the rules that the text writes
abbrev pub rules_of : Program → List Rule
rules_of program = map (λ r. r.rule) program.rules

-- the projections, and the rules of the text
abbrev pub theory_of : Program → Theory
theory_of program = record { shapes = shapes program.signature; rules = projections program.signature ++ rules_of program }

-- the rule of a number, counted from 1 in text order
abbrev pub written_rule : List WrittenRule → ℕ → Option WrittenRule
written_rule rules zero = None
written_rule rules (suc i) = slice_get rules i

-- What is wrong with rules, by their numbers: one has a fault by itself, or two overlap, under a unifier with this list of
-- bindings.
pub data Flaw : Type 0 where
  form : ℕ → FormFault → Flaw
  overlap : ℕ → ℕ → List ℕ → Flaw

-- Two rules overlap, no rule before is refused, and this is the list of bindings of their unifier.
pub record IsOverlapOf (program : Program) (first second : ℕ) (bindings : List ℕ) : Type 0 where
  pub unifier : List (ℕ × Tree)
  pub overlaps : IsFirstOverlap (shapes program.signature) (rules_of program) first second unifier
  pub earlier : WrittenRule
  pub rule : WrittenRule
  pub is_earlier : written_rule program.rules first ≡ Some earlier
  pub is : written_rule program.rules second ≡ Some rule
  pub same : bindings ≡ bindings_text program.signature earlier rule unifier

-- it is the first that is wrong with the program's rules
abbrev pub IsFirstFlaw : Program → Flaw → Type 0
IsFirstFlaw program (form n fault) = IsFirstFault (shapes program.signature) (rules_of program) n fault
IsFirstFlaw program (overlap m n bindings) = IsOverlapOf program m n bindings

-- the number of the rule that is refused: of two rules that overlap the second
abbrev pub flawed_number : Flaw → ℕ
flawed_number (form n fault) = n
flawed_number (overlap m n bindings) = n

-- The first flaw of the program's rules stands at the first token of the rule that is refused.
pub record IsFlawed (program : Program) (place : Place) (flaw : Flaw) : Type 0 where
  pub first : IsFirstFlaw program flaw
  pub rule : WrittenRule
  pub is : written_rule program.rules (flawed_number flaw) ≡ Some rule
  pub stands : place ≡ rule.place

-- the flaw that a cause names
abbrev pub flaw_of : RuleCause → Flaw
flaw_of (written.Form n fault) = form n fault
flaw_of (written.Overlap m n bindings) = overlap m n (string_bytes bindings)

-- A refusal names the first flaw of the rules, and where it stands. Of want of memory nothing is said.
abbrev pub IsRuleRefusal : Program → RuleRefusal → Type 0
IsRuleRefusal program (Fault fault) = IsFlawed program fault.place (flaw_of fault.cause)
IsRuleRefusal program Memory = ⊤
