use Rattle.dps_faithful.proofs.Entering.{handle_keeps}
use Rattle.dps_faithful.proofs.laws.handles_keep_solutions.Goals as goal

pub returns : goal.returns
returns c = λ node t s. handle_keeps node t s
