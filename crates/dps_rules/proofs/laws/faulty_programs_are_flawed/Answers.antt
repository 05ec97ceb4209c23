use Rattle.dps_rules.proofs.Flaws.{faulty_are_flawed}
use Rattle.dps_rules.proofs.laws.faulty_programs_are_flawed.Goals as goal

pub returns : goal.returns
returns c = faulty_are_flawed
