use Rattle.dps_process.proofs.KeptBinders.{steps_keep_binders, runs_keep_binders}
use Rattle.dps_process.proofs.laws.binders_are_kept.Goals as goal

pub returns : goal.returns
returns c = record { steps = steps_keep_binders; runs = runs_keep_binders }
