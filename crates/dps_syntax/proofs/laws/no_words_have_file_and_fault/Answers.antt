use Rattle.dps_syntax.proofs.OneTree.{file_or_fault}
use Rattle.dps_syntax.proofs.laws.no_words_have_file_and_fault.Goals as goal

pub returns : goal.returns
returns c = file_or_fault
