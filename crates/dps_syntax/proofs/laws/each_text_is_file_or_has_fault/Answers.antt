use Rattle.dps_syntax.proofs.FirstFaults.{some_text}
use Rattle.dps_syntax.proofs.laws.each_text_is_file_or_has_fault.Goals as goal

pub returns : goal.returns
returns c = some_text c.each_text_has_a_reading.ensures
