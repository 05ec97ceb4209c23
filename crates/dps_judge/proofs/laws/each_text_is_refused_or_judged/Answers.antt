use Rattle.dps_judge.proofs.Verdicts.{decided}
use Rattle.dps_judge.proofs.laws.each_text_is_refused_or_judged.Goals as goal

pub returns : goal.returns
returns c = decided c.each_text_has_fault_or_meaning.ensures
