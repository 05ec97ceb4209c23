use Rattle.dps_static.proofs.Frames.{answers_decide}
use Rattle.dps_static.proofs.laws.answers_decide.Goals as goal

pub returns : goal.returns
returns c = answers_decide
