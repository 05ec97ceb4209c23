use Rattle.dps_theory.proofs.Equivalence.{symmetric}
use Rattle.dps_theory.proofs.laws.statically_symmetric.Goals as goal

pub returns : goal.returns
returns c = symmetric
