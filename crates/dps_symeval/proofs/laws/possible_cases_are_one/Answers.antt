use Rattle.dps_symeval.proofs.Thinning.{one_possible}
use Rattle.dps_symeval.proofs.laws.possible_cases_are_one.Goals as goal

pub returns : goal.returns
returns c = λ all kept others h k. one_possible all kept others h k
