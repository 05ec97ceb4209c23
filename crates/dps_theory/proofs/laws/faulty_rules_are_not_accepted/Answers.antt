use Rattle.dps_theory.proofs.Faults.{faulty_rules}
use Rattle.dps_theory.proofs.laws.faulty_rules_are_not_accepted.Goals as goal

pub returns : goal.returns
returns c = faulty_rules
