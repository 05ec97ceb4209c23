use Rattle.dps_process.proofs.SilentParts.{more_parts_stand}
use Rattle.dps_process.proofs.silence.more_parts_stand.Goals as goal

pub returns : goal.returns
returns c = more_parts_stand
