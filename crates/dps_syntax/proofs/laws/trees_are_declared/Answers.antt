use Rattle.dps_syntax.proofs.Declarations.{trees_are_declared}
use Rattle.dps_syntax.proofs.laws.trees_are_declared.Goals as goal

pub returns : goal.returns
returns c = trees_are_declared
