use Rattle.dps_process.proofs.SilentParts.{nil_is_unseen}
use Rattle.dps_process.proofs.silence.nil_is_unseen.Goals as goal

pub returns : goal.returns
returns c = nil_is_unseen
