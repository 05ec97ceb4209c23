use Rattle.dps_theory.proofs.Renaming.{plain_rules_kept}
use Rattle.dps_theory.proofs.laws.plain_rules_are_kept.Goals as goal

pub returns : goal.returns
returns c = plain_rules_kept
