use Rattle.dps_theory.proofs.Evaluating.{plain_evaluates, plain_alone}
use Rattle.dps_theory.proofs.laws.plain_stays.Goals as goal

pub returns : goal.returns
returns c = λ theory t p. (plain_evaluates theory t p, λ v e. plain_alone theory e p)
