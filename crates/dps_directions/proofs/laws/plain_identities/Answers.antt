use Rattle.dps_directions.proofs.Directed.{plain_identities}
use Rattle.dps_directions.proofs.laws.plain_identities.Goals as goal

pub returns : goal.returns
returns c = plain_identities
