use Rattle.dps_process.proofs.SilentParts.{parallel_is_two_parts}
use Rattle.dps_process.proofs.silence.parallel_is_two_parts.Goals as goal

pub returns : goal.returns
returns c = parallel_is_two_parts
