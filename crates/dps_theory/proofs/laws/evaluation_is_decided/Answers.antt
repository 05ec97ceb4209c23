use Rattle.dps_theory.proofs.EvaluationDecided.{evaluation_is_decided, equality_is_decided}
use Rattle.dps_theory.proofs.laws.evaluation_is_decided.Goals as goal

pub returns : goal.returns
returns c = record { messages = evaluation_is_decided; equality = equality_is_decided }
