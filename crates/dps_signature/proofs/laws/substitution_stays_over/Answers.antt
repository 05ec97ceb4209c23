use Rattle.dps_signature.proofs.Instances.{substitution_stays_over}
use Rattle.dps_signature.proofs.laws.substitution_stays_over.Goals as goal

pub returns : goal.returns
returns c = substitution_stays_over
