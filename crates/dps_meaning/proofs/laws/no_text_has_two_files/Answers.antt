use Rattle.dps_meaning.proofs.OneMeaning.{one_text}
use Rattle.dps_meaning.proofs.laws.no_text_has_two_files.Goals as goal

pub returns : goal.returns
returns c = one_text c.no_text_has_two_readings.ensures c.no_tokens_have_two_trees.ensures
