use Rattle.dps_process.proofs.Unheard.{only_eavesdrop_overhears}
use Rattle.dps_process.proofs.laws.only_eavesdrop_overhears.Goals as goal

pub returns : goal.returns
returns c = only_eavesdrop_overhears
