use Rattle.dps_process.proofs.SilentParts.{failed_output_is_unseen}
use Rattle.dps_process.proofs.silence.failed_output_is_unseen.Goals as goal

pub returns : goal.returns
returns c = failed_output_is_unseen
