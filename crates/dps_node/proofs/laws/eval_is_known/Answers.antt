use Rattle.dps_terms.specs.Kinds.{NoRigidName}
use Rattle.dps_solver.specs.Levels.{AnyRigidName}
use Rattle.dps_node.proofs.Values.{value_known}
use Rattle.dps_node.proofs.laws.eval_is_known.Goals as goal

pub returns : goal.returns
returns c =
    (λ theory node k u used s g accepted under d term x h. value_known NoRigidName theory node k u used s g accepted under d term x h, λ theory node k u used s g accepted under d term x h. value_known AnyRigidName theory node k u used s g accepted under d term x h)
