use Rattle.dps_process.proofs.ReplacementsInTurn.{replacement_commutes_with_put}
use Rattle.dps_process.proofs.laws.replacement_commutes_with_put.Goals as goal

pub returns : goal.returns
returns c = replacement_commutes_with_put
