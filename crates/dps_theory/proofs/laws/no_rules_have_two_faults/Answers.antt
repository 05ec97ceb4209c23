use Rattle.dps_theory.proofs.OneFault.{one_fault}
use Rattle.dps_theory.proofs.laws.no_rules_have_two_faults.Goals as goal

pub returns : goal.returns
returns c = one_fault
