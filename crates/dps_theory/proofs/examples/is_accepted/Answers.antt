use Rattle.std.proofs.Common.{subst, sym}
use Rattle.dps_theory.specs.declared.examples.RuleList.{RuleList}
use Rattle.dps_theory.specs.Theory.{IsAccepted}
use Rattle.dps_theory.specs.Examples.{rules_of}
use Rattle.dps_theory.proofs.Encryption.{decryption_accepted, overlap_refused}
use Rattle.dps_theory.proofs.RuleRows.{two_rules_accepted, ground_right, larger_right, constructor_root, root_arity, inner_destructor, right_destructor}
use Rattle.dps_theory.proofs.examples.is_accepted.Goals as goal

abbrev Refused : RuleList → Type 0
Refused l = ¬ IsAccepted (rules_of l)

pub returns-in-Decryption : goal.returns-in-Decryption
returns-in-Decryption c = subst (λ (l : RuleList). IsAccepted (rules_of l)) (sym c.in-Decryption.is) decryption_accepted

pub returns-in-Overlap : goal.returns-in-Overlap
returns-in-Overlap c = subst Refused (sym c.in-Overlap.is) overlap_refused

pub returns-in-TwoRules : goal.returns-in-TwoRules
returns-in-TwoRules c = subst (λ (l : RuleList). IsAccepted (rules_of l)) (sym c.in-TwoRules.is) two_rules_accepted

pub returns-in-GroundRight : goal.returns-in-GroundRight
returns-in-GroundRight c = subst (λ (l : RuleList). IsAccepted (rules_of l)) (sym c.in-GroundRight.is) ground_right

pub returns-in-LargerRight : goal.returns-in-LargerRight
returns-in-LargerRight c = subst Refused (sym c.in-LargerRight.is) larger_right

pub returns-in-ConstructorRoot : goal.returns-in-ConstructorRoot
returns-in-ConstructorRoot c = subst Refused (sym c.in-ConstructorRoot.is) constructor_root

pub returns-in-RootArity : goal.returns-in-RootArity
returns-in-RootArity c = subst Refused (sym c.in-RootArity.is) root_arity

pub returns-in-InnerDestructor : goal.returns-in-InnerDestructor
returns-in-InnerDestructor c = subst Refused (sym c.in-InnerDestructor.is) inner_destructor

pub returns-in-RightDestructor : goal.returns-in-RightDestructor
returns-in-RightDestructor c = subst Refused (sym c.in-RightDestructor.is) right_destructor
