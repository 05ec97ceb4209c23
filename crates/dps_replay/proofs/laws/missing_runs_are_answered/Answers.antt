use Rattle.dps_replay.proofs.Answering.{no_run_answered}
use Rattle.dps_replay.proofs.laws.missing_runs_are_answered.Goals as goal

pub returns : goal.returns
returns c = no_run_answered c.prefixes_are_traces.ensures
