use Rattle.dps_theory.proofs.Evaluating.{value_plain}
use Rattle.dps_theory.proofs.laws.values_are_plain.Goals as goal

pub returns : goal.returns
returns c = λ theory t v a p e. value_plain theory a p e
