use Rattle.dps_directions.proofs.Directed.{scenes_under_bindings}
use Rattle.dps_directions.proofs.laws.scenes_under_bindings.Goals as goal

pub returns : goal.returns
returns c = scenes_under_bindings
