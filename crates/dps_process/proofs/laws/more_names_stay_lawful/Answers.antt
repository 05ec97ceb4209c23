use Rattle.dps_process.proofs.MoreNames.{more_names_stay_lawful, more_names_keep_configs}
use Rattle.dps_process.proofs.laws.more_names_stay_lawful.Goals as goal

pub returns : goal.returns
returns c = record { problems = more_names_stay_lawful; configs = more_names_keep_configs }
