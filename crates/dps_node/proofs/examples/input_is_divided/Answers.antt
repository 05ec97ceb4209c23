use Rattle.dps_node.proofs.Splitting.{input_is_divided}
use Rattle.dps_node.proofs.examples.input_is_divided.Goals as goal

pub returns : goal.returns
returns c = input_is_divided
