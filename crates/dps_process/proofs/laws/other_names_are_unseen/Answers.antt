use Rattle.dps_process.proofs.OtherNames.{other_names_are_unseen}
use Rattle.dps_process.proofs.laws.other_names_are_unseen.Goals as goal

pub returns : goal.returns
returns c = other_names_are_unseen
