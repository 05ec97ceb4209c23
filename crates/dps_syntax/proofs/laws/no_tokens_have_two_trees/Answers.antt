use Rattle.dps_syntax.proofs.OneTree.{one_tree}
use Rattle.dps_syntax.proofs.laws.no_tokens_have_two_trees.Goals as goal

pub returns : goal.returns
returns c = one_tree
