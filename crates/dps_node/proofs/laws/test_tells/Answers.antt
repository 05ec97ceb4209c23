use Rattle.dps_terms.specs.Kinds.{NoRigidName}
use Rattle.dps_solver.specs.Levels.{AnyRigidName}
use Rattle.dps_node.proofs.Telling.{test_tells}
use Rattle.dps_node.proofs.laws.test_tells.Goals as goal

pub returns : goal.returns
returns c =
    (λ theory node k u v o s g accepted under d hu hv. test_tells NoRigidName theory node k s g accepted u v o under d hu hv, λ theory node k u v o s g accepted under d hu hv. test_tells AnyRigidName theory node k s g accepted u v o under d hu hv)
