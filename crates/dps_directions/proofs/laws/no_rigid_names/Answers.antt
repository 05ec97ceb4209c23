use Rattle.dps_directions.proofs.Directed.{no_rigid_names}
use Rattle.dps_directions.proofs.laws.no_rigid_names.Goals as goal

pub returns : goal.returns
returns c = no_rigid_names
