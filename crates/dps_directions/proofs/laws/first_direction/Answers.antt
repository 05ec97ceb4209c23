use Rattle.dps_directions.proofs.Directed.{first_direction}
use Rattle.dps_directions.proofs.laws.first_direction.Goals as goal

pub returns : goal.returns
returns c = first_direction
