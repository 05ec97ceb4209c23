use Rattle.dps_elab.proofs.LawfulSides.{sides_are_lawful}
use Rattle.dps_elab.proofs.laws.sides_are_lawful.Goals as goal

pub returns : goal.returns
returns c = sides_are_lawful
