use Rattle.dps_node.proofs.Row.{budget_is_spent}
use Rattle.dps_node.proofs.examples.budget_is_spent.Goals as goal

pub returns : goal.returns
returns c = budget_is_spent
