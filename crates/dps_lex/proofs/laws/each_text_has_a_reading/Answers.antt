use Rattle.dps_lex.proofs.SomeReading.{some_reading}
use Rattle.dps_lex.proofs.laws.each_text_has_a_reading.Goals as goal

pub returns : goal.returns
returns c = some_reading
