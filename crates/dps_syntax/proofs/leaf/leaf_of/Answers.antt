use Rattle.dps_syntax.proofs.Leaves.{text_is_utf8}
use Rattle.dps_syntax.proofs.leaf.leaf_of.Goals as goal

pub unreachable-requires : goal.unreachable-requires
unreachable-requires c = c.in-Err.ensures.cases.0 (text_is_utf8 c.args.bytes.now c.text_of.result.now c.args.token c.requires c.text_of.ensures)
