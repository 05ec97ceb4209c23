use Rattle.dps_theory.proofs.Renaming.{replaced_reflects}
use Rattle.dps_theory.proofs.laws.replaced_names_reflect.Goals as goal

pub returns : goal.returns
returns c = replaced_reflects
