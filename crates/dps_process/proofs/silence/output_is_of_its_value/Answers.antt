use Rattle.dps_process.proofs.SilentParts.{output_is_of_its_value}
use Rattle.dps_process.proofs.silence.output_is_of_its_value.Goals as goal

pub returns : goal.returns
returns c = output_is_of_its_value
