use Rattle.dps_node.proofs.Rules.{expands_once}
use Rattle.dps_node.proofs.laws.expansions_take_one_count.Goals as goal

pub returns : goal.returns
returns c = λ problem node n m ks ls h k. expands_once problem h k
