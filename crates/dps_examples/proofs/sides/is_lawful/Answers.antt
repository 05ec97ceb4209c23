use Rattle.std.proofs.Common.{subst, sym}
use Rattle.dps_process.specs.Problem.{IsLawful}
use Rattle.dps_examples.specs.Examples.{with_output}
use Rattle.dps_examples.specs.declared.sides.Output.{Output}
use Rattle.dps_examples.proofs.Lawful.{declared_name, private_name, free_variable, wrong_arity, undeclared_name, own_name, undeclared_channel}
use Rattle.dps_examples.proofs.sides.is_lawful.Goals as goal

abbrev Lawful : Output → Type 0
Lawful o = IsLawful (with_output o)

abbrev Unlawful : Output → Type 0
Unlawful o = ¬ IsLawful (with_output o)

pub returns-in-DeclaredName : goal.returns-in-DeclaredName
returns-in-DeclaredName c = subst Lawful (sym c.in-DeclaredName.is) declared_name

pub returns-in-PrivateName : goal.returns-in-PrivateName
returns-in-PrivateName c = subst Lawful (sym c.in-PrivateName.is) private_name

pub returns-in-FreeVariable : goal.returns-in-FreeVariable
returns-in-FreeVariable c = subst Unlawful (sym c.in-FreeVariable.is) free_variable

pub returns-in-WrongArity : goal.returns-in-WrongArity
returns-in-WrongArity c = subst Unlawful (sym c.in-WrongArity.is) wrong_arity

pub returns-in-UndeclaredName : goal.returns-in-UndeclaredName
returns-in-UndeclaredName c = subst Unlawful (sym c.in-UndeclaredName.is) undeclared_name

pub returns-in-OwnName : goal.returns-in-OwnName
returns-in-OwnName c = subst Unlawful (sym c.in-OwnName.is) own_name

pub returns-in-UndeclaredChannel : goal.returns-in-UndeclaredChannel
returns-in-UndeclaredChannel c = subst Unlawful (sym c.in-UndeclaredChannel.is) undeclared_channel
