use Rattle.dps_terms.specs.Kinds.{NoRigidName}
use Rattle.dps_solver.specs.Levels.{AnyRigidName}
use Rattle.dps_node.proofs.Telling.{tree_false}
use Rattle.dps_node.proofs.laws.tree_false.Goals as goal

pub returns : goal.returns
returns c = (λ node k t u s g under d ground e. tree_false NoRigidName node k s g t u under d ground e, λ node k t u s g under d ground e. tree_false AnyRigidName node k s g t u under d ground e)
