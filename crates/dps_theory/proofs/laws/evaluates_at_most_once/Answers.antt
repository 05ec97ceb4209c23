use Rattle.dps_theory.proofs.Evaluating.{evaluates_once}
use Rattle.dps_theory.proofs.laws.evaluates_at_most_once.Goals as goal

pub returns : goal.returns
returns c = λ theory t v w a h k. evaluates_once theory a h k
