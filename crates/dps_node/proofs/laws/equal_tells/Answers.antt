use Rattle.dps_terms.specs.Kinds.{NoRigidName}
use Rattle.dps_solver.specs.Levels.{AnyRigidName}
use Rattle.dps_node.proofs.Telling.{equal_tells}
use Rattle.dps_node.proofs.laws.equal_tells.Goals as goal

pub returns : goal.returns
returns c = (λ node k t u o s g under d known. equal_tells NoRigidName node k s g t u o under d known, λ node k t u o s g under d known. equal_tells AnyRigidName node k s g t u o under d known)
