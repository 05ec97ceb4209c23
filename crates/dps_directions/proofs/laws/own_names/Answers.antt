use Rattle.dps_directions.proofs.Directed.{own_names}
use Rattle.dps_directions.proofs.laws.own_names.Goals as goal

pub returns : goal.returns
returns c = own_names
