use Rattle.dps_theory.proofs.PrivateNames.{private_names_are_alike}
use Rattle.dps_theory.proofs.laws.private_names_are_alike.Goals as goal

pub returns : goal.returns
returns c = private_names_are_alike
