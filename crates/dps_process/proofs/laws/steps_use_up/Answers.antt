use Rattle.dps_process.proofs.StepSizes.{step_uses_up}
use Rattle.dps_process.proofs.laws.steps_use_up.Goals as goal

pub returns : goal.returns
returns c = λ model signature theory c d action s. step_uses_up model signature theory s
