use Rattle.dps_replay.proofs.Answering.{attack_answered}
use Rattle.dps_replay.proofs.laws.attacks_are_answered.Goals as goal

pub returns : goal.returns
returns c = attack_answered c.prefixes_are_traces.ensures
