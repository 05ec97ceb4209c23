use Rattle.std.proofs.Common.{length}
use Rattle.dps_tree.proofs.Holding.{contains_item, some_left}
use Rattle.dps_tree.proofs.matching.have_configuration.Goals as goal

pub returns-then-not-is_empty : goal.returns-then-not-is_empty
returns-then-not-is_empty c e = (
  c.group-item.result,
  contains_item c.args.groups.now c.loop-group.group-index c.group-item.result c.group-item.is c.loop-group-test.true,
  some_left (length c.group-item.result.bags) c.is_empty.result c.is_empty.ensures.1 c.if-not-is_empty.true,
)
