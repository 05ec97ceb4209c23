use Rattle.dps_terms.specs.Kinds.{NoRigidName}
use Rattle.dps_solver.specs.Levels.{AnyRigidName}
use Rattle.dps_node.proofs.Computing.{composition_false}
use Rattle.dps_node.proofs.laws.composition_false.Goals as goal

pub returns : goal.returns
returns c =
    (λ node k t us s g under d ground e. composition_false NoRigidName node k s g t us under d ground e, λ node k t us s g under d ground e. composition_false AnyRigidName node k s g t us under d ground e)
