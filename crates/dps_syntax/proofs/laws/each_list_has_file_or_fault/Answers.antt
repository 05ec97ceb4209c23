use Rattle.dps_syntax.proofs.SomeFile.{file_or_first_fault}
use Rattle.dps_syntax.proofs.laws.each_list_has_file_or_fault.Goals as goal

pub returns : goal.returns
returns c = file_or_first_fault
