use Rattle.dps_directions.proofs.Directed.{plain_terms}
use Rattle.dps_directions.proofs.laws.plain_terms.Goals as goal

pub returns : goal.returns
returns c = plain_terms
