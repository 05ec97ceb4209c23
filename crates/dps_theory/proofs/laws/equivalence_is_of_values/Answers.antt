use Rattle.dps_theory.proofs.Equivalence.{of_values, from_values}
use Rattle.dps_theory.proofs.laws.equivalence_is_of_values.Goals as goal

pub returns : goal.returns
returns c = λ signature theory first second a. (of_values signature theory a first second, from_values signature theory a first second)
