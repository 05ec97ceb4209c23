use Rattle.dps_judge.proofs.Verdicts.{theory_refused_once}
use Rattle.dps_judge.proofs.laws.no_theory_is_refused_twice.Goals as goal

pub returns : goal.returns
returns c = theory_refused_once c.no_text_has_two_theory_faults.ensures
