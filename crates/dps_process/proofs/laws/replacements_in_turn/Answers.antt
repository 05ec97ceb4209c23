use Rattle.dps_process.proofs.ReplacementsInTurn.{replacements_in_turn}
use Rattle.dps_process.proofs.laws.replacements_in_turn.Goals as goal

pub returns : goal.returns
returns c = replacements_in_turn
