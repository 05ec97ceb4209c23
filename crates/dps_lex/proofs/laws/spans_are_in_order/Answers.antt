use Rattle.dps_lex.proofs.Spans.{spans}
use Rattle.dps_lex.proofs.laws.spans_are_in_order.Goals as goal

pub returns : goal.returns
returns c = spans
