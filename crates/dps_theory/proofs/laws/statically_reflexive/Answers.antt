use Rattle.dps_theory.proofs.Equivalence.{reflexive}
use Rattle.dps_theory.proofs.laws.statically_reflexive.Goals as goal

pub returns : goal.returns
returns c = reflexive
