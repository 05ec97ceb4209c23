use Rattle.std.proofs.Common.{get_or}
use Rattle.dps_tree.proofs.Holding.{there_at}
use Rattle.dps_tree.proofs.table.message_among.Goals as goal

pub returns-then-equals : goal.returns-then-equals
returns-then-equals c = (
  c.in-Some.other.now,
  there_at c.args.messages.now (get_or c.args.numbers.now c.loop-number.number-index 0) c.in-Some.other.now c.in-Some.ensures.lookup.1 c.in-Some.ensures.lookup.3.0,
  c.equals.ensures.0 c.if-equals.true,
)
