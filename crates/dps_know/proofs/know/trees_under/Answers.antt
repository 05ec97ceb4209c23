use Rattle.std.proofs.Common.{◌∙◌}
use Rattle.dps_terms.specs.Bindings.{image}
use Rattle.dps_terms.specs.Replace.{substitute}
use Rattle.dps_know.proofs.Walks.{mapped_more}
use Rattle.dps_know.proofs.know.trees_under.Goals as goal

pub loop-tree-preserved : goal.loop-tree-preserved
loop-tree-preserved c =
    let step =
    mapped_more (substitute (image c.args.by.now)) _ c.loop-tree.made.items c.loop-tree.tree-index c.tree-item.result c.in_ok-one.one c.loop-tree.invariant c.loop-tree-test.true c.tree-item.is
    c.in_ok-one.ensures in
    c.in_ok-push.ensures.items ∙ step
