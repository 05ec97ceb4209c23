use Rattle.dps_node.proofs.Opening.{secret_is_opened}
use Rattle.dps_node.proofs.examples.secret_is_opened.Goals as goal

pub returns : goal.returns
returns c = secret_is_opened
