use Rattle.dps_directions.proofs.Directed.{plain_solutions}
use Rattle.dps_directions.proofs.laws.plain_solutions.Goals as goal

pub returns : goal.returns
returns c = plain_solutions
