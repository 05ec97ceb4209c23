use Rattle.dps_syntax.proofs.FirstFaults.{one_fault}
use Rattle.dps_syntax.proofs.laws.no_words_have_two_faults.Goals as goal

pub returns : goal.returns
returns c = one_fault
