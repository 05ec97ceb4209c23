use Rattle.dps_process.proofs.SilentParts.{choice_is_either}
use Rattle.dps_process.proofs.silence.choice_is_either.Goals as goal

pub returns : goal.returns
returns c = choice_is_either
