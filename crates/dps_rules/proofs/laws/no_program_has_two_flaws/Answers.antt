use Rattle.dps_rules.proofs.OneFlaw.{one_flaw}
use Rattle.dps_rules.proofs.laws.no_program_has_two_flaws.Goals as goal

pub returns : goal.returns
returns c = one_flaw c.no_rules_have_two_faults.ensures c.mgu_is_one.ensures
