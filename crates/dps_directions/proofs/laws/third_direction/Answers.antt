use Rattle.dps_directions.proofs.Directed.{third_direction}
use Rattle.dps_directions.proofs.laws.third_direction.Goals as goal

pub returns : goal.returns
returns c = third_direction
