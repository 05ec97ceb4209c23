use Rattle.dps_theory.proofs.Equivalence.{transitive}
use Rattle.dps_theory.proofs.laws.statically_transitive.Goals as goal

pub returns : goal.returns
returns c = transitive
