use Rattle.std.proofs.Common.{subst, sym}
use Rattle.dps_terms.specs.Tree.{Tree, leaf, var, ax}
use Rattle.dps_theory.specs.declared.examples.Computation.{Computation}
use Rattle.dps_theory.specs.Evaluation.{Evaluates, IsMessage, named}
use Rattle.dps_theory.specs.Examples.{theory, computed_under, term_of, a, b, r}
use Rattle.dps_theory.proofs.Encryption.{opens, wrong_key, no_ciphertext, below_constructor}
use Rattle.dps_theory.proofs.FormsOfTerms.{leaf_value}
use Rattle.dps_theory.proofs.RuleRows.{nested_key, second_rule}
use Rattle.dps_theory.proofs.examples.value.Goals as goal

abbrev Fails : Computation → Type 0
Fails t = ¬ IsMessage (computed_under t) (term_of t)

abbrev Gives : Tree → Computation → Type 0
Gives v t = Evaluates (computed_under t) (term_of t) v

pub returns-in-RightKey : goal.returns-in-RightKey
returns-in-RightKey c = subst (Gives a) (sym c.in-RightKey.is) opens

pub returns-in-WrongKey : goal.returns-in-WrongKey
returns-in-WrongKey c = subst Fails (sym c.in-WrongKey.is) wrong_key

pub returns-in-NoCiphertext : goal.returns-in-NoCiphertext
returns-in-NoCiphertext c = subst Fails (sym c.in-NoCiphertext.is) no_ciphertext

pub returns-in-BelowConstructor : goal.returns-in-BelowConstructor
returns-in-BelowConstructor c = subst Fails (sym c.in-BelowConstructor.is) below_constructor

pub returns-in-NestedKey : goal.returns-in-NestedKey
returns-in-NestedKey c = subst (Gives a) (sym c.in-NestedKey.is) nested_key

pub returns-in-SecondRule : goal.returns-in-SecondRule
returns-in-SecondRule c = subst (Gives b) (sym c.in-SecondRule.is) second_rule

pub returns-in-RigidName : goal.returns-in-RigidName
returns-in-RigidName c = subst (Gives r) (sym c.in-RigidName.is) (named tt)

pub returns-in-Handle : goal.returns-in-Handle
returns-in-Handle c = subst Fails (sym c.in-Handle.is) (λ m. leaf_value theory (ax 1) m.0 m.1)

pub returns-in-Variable : goal.returns-in-Variable
returns-in-Variable c = subst Fails (sym c.in-Variable.is) (λ m. leaf_value theory (var 1) m.0 m.1)
