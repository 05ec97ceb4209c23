use Rattle.std.proofs.Common.{subst, sym}
use Rattle.dps_examples.specs.Examples.{TakesFirst, TakesSecond}
use Rattle.dps_examples.proofs.TakenBranches.{same_names, different_names, same_failure, same_value, value_on_the_right, left_failure, right_failure, bound_value, bound_failure}
use Rattle.dps_examples.proofs.branches.takes_first.Goals as goal

pub returns-in-SameNames : goal.returns-in-SameNames
returns-in-SameNames c = subst TakesFirst (sym c.in-SameNames.is) same_names

pub returns-in-DifferentNames : goal.returns-in-DifferentNames
returns-in-DifferentNames c = subst TakesSecond (sym c.in-DifferentNames.is) different_names

pub returns-in-SameFailure : goal.returns-in-SameFailure
returns-in-SameFailure c = subst TakesSecond (sym c.in-SameFailure.is) same_failure

pub returns-in-SameValue : goal.returns-in-SameValue
returns-in-SameValue c = subst TakesFirst (sym c.in-SameValue.is) same_value

pub returns-in-ValueOnTheRight : goal.returns-in-ValueOnTheRight
returns-in-ValueOnTheRight c = subst TakesFirst (sym c.in-ValueOnTheRight.is) value_on_the_right

pub returns-in-LeftFailure : goal.returns-in-LeftFailure
returns-in-LeftFailure c = subst TakesSecond (sym c.in-LeftFailure.is) left_failure

pub returns-in-RightFailure : goal.returns-in-RightFailure
returns-in-RightFailure c = subst TakesSecond (sym c.in-RightFailure.is) right_failure

pub returns-in-BoundValue : goal.returns-in-BoundValue
returns-in-BoundValue c = subst TakesFirst (sym c.in-BoundValue.is) bound_value

pub returns-in-BoundFailure : goal.returns-in-BoundFailure
returns-in-BoundFailure c = subst TakesSecond (sym c.in-BoundFailure.is) bound_failure
