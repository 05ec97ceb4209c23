use Rattle.dps_elab.proofs.LawfulSides.{binders_are_high}
use Rattle.dps_elab.proofs.laws.binders_are_high.Goals as goal

pub returns : goal.returns
returns c = binders_are_high
