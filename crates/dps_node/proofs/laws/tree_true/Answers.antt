use Rattle.dps_terms.specs.Kinds.{NoRigidName}
use Rattle.dps_solver.specs.Levels.{AnyRigidName}
use Rattle.dps_node.proofs.Trees.{tree_true}
use Rattle.dps_node.proofs.laws.tree_true.Goals as goal

pub returns : goal.returns
returns c = (λ node k t used s g under d known. tree_true NoRigidName node k t used s g under d known, λ node k t used s g under d known. tree_true AnyRigidName node k t used s g under d known)
