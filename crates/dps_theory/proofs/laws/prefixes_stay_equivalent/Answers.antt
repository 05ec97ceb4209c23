use Rattle.dps_theory.proofs.Equivalence.{prefixes}
use Rattle.dps_theory.proofs.laws.prefixes_stay_equivalent.Goals as goal

pub returns : goal.returns
returns c = prefixes
