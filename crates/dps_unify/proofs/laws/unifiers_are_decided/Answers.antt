use Rattle.dps_unify.proofs.Deciding.{unifiers_are_decided}
use Rattle.dps_unify.proofs.laws.unifiers_are_decided.Goals as goal

pub returns : goal.returns
returns c = unifiers_are_decided
