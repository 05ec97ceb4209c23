use Rattle.dps_judge.proofs.Verdicts.{refused_or_judged}
use Rattle.dps_judge.proofs.laws.no_text_is_refused_and_judged.Goals as goal

pub returns : goal.returns
returns c = refused_or_judged c.no_text_has_fault_and_meaning.ensures c.no_text_has_two_files.ensures
