use Rattle.dps_terms.specs.Kinds.{NoRigidName}
use Rattle.dps_solver.specs.Levels.{AnyRigidName}
use Rattle.dps_node.proofs.Truth.{false_holds_never}
use Rattle.dps_node.proofs.laws.false_holds_never.Goals as goal

pub returns : goal.returns
returns c = (λ node k question s g under d. false_holds_never NoRigidName node k question s g under d, λ node k question s g under d. false_holds_never AnyRigidName node k question s g under d)
