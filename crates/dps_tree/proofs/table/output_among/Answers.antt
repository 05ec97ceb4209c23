use Rattle.std.proofs.Common.{get_or}
use Rattle.dps_tree.proofs.Holding.{there_at}
use Rattle.dps_tree.proofs.table.output_among.Goals as goal

pub returns-then-are_equal : goal.returns-then-are_equal
returns-then-are_equal c = (
  c.in-Some.other.now,
  there_at c.args.outputs.now (get_or c.args.numbers.now c.loop-number.number-index 0) c.in-Some.other.now c.in-Some.ensures.lookup.1 c.in-Some.ensures.lookup.3.0,
  c.are_equal.ensures.0 c.if-are_equal.true,
)
