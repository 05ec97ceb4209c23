use Rattle.dps_names.proofs.RulesChecked.{rules_checkable}
use Rattle.dps_names.proofs.laws.rules_are_checkable.Goals as goal

pub returns : goal.returns
returns c = rules_checkable
