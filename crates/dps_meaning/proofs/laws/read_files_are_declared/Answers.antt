use Rattle.dps_meaning.proofs.OneMeaning.{declared_by}
use Rattle.dps_meaning.proofs.laws.read_files_are_declared.Goals as goal

pub returns : goal.returns
returns c = declared_by
