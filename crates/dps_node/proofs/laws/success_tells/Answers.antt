use Rattle.dps_terms.specs.Kinds.{NoRigidName}
use Rattle.dps_solver.specs.Levels.{AnyRigidName}
use Rattle.dps_node.proofs.Computing.{success_tells}
use Rattle.dps_node.proofs.laws.success_tells.Goals as goal

pub returns : goal.returns
returns c =
    (λ theory node k f values o s g accepted shape under d h. success_tells NoRigidName theory node k s g accepted f values shape h o under d, λ theory node k f values o s g accepted shape under d h. success_tells AnyRigidName theory node k s g accepted f values shape h o under d)
