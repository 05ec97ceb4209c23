use Rattle.dps_lex.proofs.OneReading.{one_reading}
use Rattle.dps_lex.proofs.laws.no_text_has_two_readings.Goals as goal

pub returns : goal.returns
returns c = one_reading
