use Rattle.dps_directions.proofs.Directed.{bindings_of_levels}
use Rattle.dps_directions.proofs.laws.bindings_of_levels.Goals as goal

pub returns : goal.returns
returns c = bindings_of_levels
