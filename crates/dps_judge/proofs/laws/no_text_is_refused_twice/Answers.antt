use Rattle.dps_judge.proofs.Verdicts.{refused_once}
use Rattle.dps_judge.proofs.laws.no_text_is_refused_twice.Goals as goal

pub returns : goal.returns
returns c = refused_once c.no_text_has_two_faults.ensures c.no_text_has_fault_and_meaning.ensures c.no_text_has_two_files.ensures
