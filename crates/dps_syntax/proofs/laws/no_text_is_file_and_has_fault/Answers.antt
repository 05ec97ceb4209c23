use Rattle.dps_syntax.proofs.FirstFaults.{not_both_of_text}
use Rattle.dps_syntax.proofs.laws.no_text_is_file_and_has_fault.Goals as goal

pub returns : goal.returns
returns c = not_both_of_text c.no_text_has_two_readings.ensures
