use Rattle.dps_process.proofs.SilentParts.{test_is_its_branch}
use Rattle.dps_process.proofs.silence.test_is_its_branch.Goals as goal

pub returns : goal.returns
returns c = test_is_its_branch
