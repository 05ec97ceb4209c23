use Rattle.dps_judge.proofs.Verdicts.{theory_or_none}
use Rattle.dps_judge.proofs.laws.no_text_has_theory_and_none.Goals as goal

pub returns : goal.returns
returns c = theory_or_none c.no_text_has_fault_and_theory.ensures
