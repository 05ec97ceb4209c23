use Rattle.dps_names.proofs.laws.programs_are_well_formed.Goals as goal
use Rattle.dps_names.proofs.FormedPrograms.{well_formed}

pub returns : goal.returns
returns c = well_formed
