use Rattle.dps_directions.proofs.Directed.{second_direction}
use Rattle.dps_directions.proofs.laws.second_direction.Goals as goal

pub returns : goal.returns
returns c = second_direction
