use Rattle.dps_directions.proofs.Directed.{valuations_are_there}
use Rattle.dps_directions.proofs.laws.valuations_are_there.Goals as goal

pub returns : goal.returns
returns c = valuations_are_there
