use Rattle.dps_syntax.proofs.Whole.{spans_of_first}
use Rattle.dps_syntax.proofs.reading.parse.Goals as goal

pub file_of-requires : goal.file_of-requires
file_of-requires c = spans_of_first c.args.bytes.now c.args.tokens.now c.spans_are_in_order.ensures c.requires.first
