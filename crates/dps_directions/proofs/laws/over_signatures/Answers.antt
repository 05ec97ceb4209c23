use Rattle.dps_directions.proofs.Directed.{over_signatures}
use Rattle.dps_directions.proofs.laws.over_signatures.Goals as goal

pub returns : goal.returns
returns c = over_signatures
