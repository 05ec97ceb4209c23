use Rattle.dps_directions.proofs.Directed.{empty_lists}
use Rattle.dps_directions.proofs.laws.empty_lists.Goals as goal

pub returns : goal.returns
returns c = empty_lists
