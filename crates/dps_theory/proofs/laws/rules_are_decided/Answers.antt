use Rattle.dps_theory.proofs.RulesDecided.{rules_are_decided}
use Rattle.dps_theory.proofs.laws.rules_are_decided.Goals as goal

pub returns : goal.returns
returns c = rules_are_decided
