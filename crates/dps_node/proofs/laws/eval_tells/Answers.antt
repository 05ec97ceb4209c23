use Rattle.dps_terms.specs.Kinds.{NoRigidName}
use Rattle.dps_solver.specs.Levels.{AnyRigidName}
use Rattle.dps_node.proofs.Telling.{eval_tells}
use Rattle.dps_node.proofs.laws.eval_tells.Goals as goal

pub returns : goal.returns
returns c =
    (λ theory node k u o s g accepted under d hu. eval_tells NoRigidName theory node k s g accepted u o under d hu, λ theory node k u o s g accepted under d hu. eval_tells AnyRigidName theory node k s g accepted u o under d hu)
