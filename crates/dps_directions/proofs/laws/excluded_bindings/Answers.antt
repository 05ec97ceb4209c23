use Rattle.dps_directions.proofs.Directed.{excluded_bindings}
use Rattle.dps_directions.proofs.laws.excluded_bindings.Goals as goal

pub returns : goal.returns
returns c = excluded_bindings
