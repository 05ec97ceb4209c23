use Rattle.dps_theory.proofs.ProjectionValues.{projections_give_members}
use Rattle.dps_theory.proofs.laws.projections_give_members.Goals as goal

pub returns : goal.returns
returns c = projections_give_members
