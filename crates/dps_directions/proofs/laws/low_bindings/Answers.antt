use Rattle.dps_directions.proofs.Directed.{low_bindings}
use Rattle.dps_directions.proofs.laws.low_bindings.Goals as goal

pub returns : goal.returns
returns c = low_bindings
