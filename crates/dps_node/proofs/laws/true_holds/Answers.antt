use Rattle.dps_terms.specs.Kinds.{NoRigidName}
use Rattle.dps_solver.specs.Levels.{AnyRigidName}
use Rattle.dps_node.proofs.Truth.{is_used, used_holds}
use Rattle.dps_node.proofs.laws.true_holds.Goals as goal

pub returns : goal.returns
returns c =
    (λ node k question used s g under d. used_holds NoRigidName node k question s g under used (is_used node k question used d), λ node k question used s g under d. used_holds AnyRigidName node k question s g under used (is_used node k question used d))
