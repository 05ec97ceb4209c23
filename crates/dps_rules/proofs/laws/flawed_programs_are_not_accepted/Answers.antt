use Rattle.dps_rules.proofs.Flaws.{flawed_not_accepted}
use Rattle.dps_rules.proofs.laws.flawed_programs_are_not_accepted.Goals as goal

pub returns : goal.returns
returns c = flawed_not_accepted c.faulty_rules_are_not_accepted.ensures
