use Rattle.dps_theory.proofs.Equivalence.{not_told_apart}
use Rattle.dps_theory.proofs.laws.separated_are_not_equivalent.Goals as goal

pub returns : goal.returns
returns c = λ signature theory first second t e. not_told_apart signature theory first second t e
