use Rattle.dps_process.proofs.SilentParts.{binding_is_its_branch}
use Rattle.dps_process.proofs.silence.binding_is_its_branch.Goals as goal

pub returns : goal.returns
returns c = binding_is_its_branch
