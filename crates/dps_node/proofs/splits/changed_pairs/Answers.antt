use Rattle.dps_node.proofs.Mapped.{changes_more}
use Rattle.dps_node.proofs.splits.changed_pairs.Goals as goal

pub loop-variable-preserved : goal.loop-variable-preserved
loop-variable-preserved c =
    changes_more c.args.by.now c.args.variables.now c.loop-variable.variable-index c.loop-variable.pairs.items c.push_change.new.pairs.items
    c.loop-variable-test.true c.in_ok-push_change.ensures c.loop-variable.invariant
