use Rattle.dps_directions.proofs.Directed.{first_answers}
use Rattle.dps_directions.proofs.laws.first_answers.Goals as goal

pub returns : goal.returns
returns c = first_answers
