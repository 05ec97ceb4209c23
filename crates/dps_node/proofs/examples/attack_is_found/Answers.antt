use Rattle.dps_node.proofs.Row.{attack_is_found}
use Rattle.dps_node.proofs.examples.attack_is_found.Goals as goal

pub returns : goal.returns
returns c = attack_is_found
