use Rattle.dps_syntax.proofs.FirstFaults.{one_fault_of_text}
use Rattle.dps_syntax.proofs.laws.no_text_has_two_faults.Goals as goal

pub returns : goal.returns
returns c = one_fault_of_text c.no_text_has_two_readings.ensures
