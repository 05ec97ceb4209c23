use Rattle.dps_directions.proofs.Directed.{new_variables}
use Rattle.dps_directions.proofs.laws.new_variables.Goals as goal

pub returns : goal.returns
returns c = new_variables
