use Rattle.dps_theory.proofs.Renaming.{replaced_evaluates}
use Rattle.dps_theory.proofs.laws.replaced_names_evaluate.Goals as goal

pub returns : goal.returns
returns c = λ theory f t v k n e. replaced_evaluates theory f k n e
