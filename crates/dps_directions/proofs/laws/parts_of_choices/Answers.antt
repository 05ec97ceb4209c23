use Rattle.dps_directions.proofs.Directed.{parts_of_choices}
use Rattle.dps_directions.proofs.laws.parts_of_choices.Goals as goal

pub returns : goal.returns
returns c = parts_of_choices
