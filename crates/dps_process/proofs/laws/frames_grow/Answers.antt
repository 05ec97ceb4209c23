use Rattle.dps_process.proofs.StepSizes.{frame_grows}
use Rattle.dps_process.proofs.laws.frames_grow.Goals as goal

pub returns : goal.returns
returns c = λ model signature theory c d word r. frame_grows model signature theory r
