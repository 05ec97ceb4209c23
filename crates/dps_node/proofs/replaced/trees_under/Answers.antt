use Rattle.std.proofs.Common.{ap, ◌∙◌}
use Rattle.dps_terms.specs.Bindings.{image}
use Rattle.dps_terms.specs.Replace.{substitute}
use Rattle.dps_node.proofs.Mapped.{mapped_more}
use Rattle.dps_node.proofs.replaced.trees_under.Goals as goal

pub loop-tree-preserved : goal.loop-tree-preserved
loop-tree-preserved c =
    mapped_more (substitute (image c.args.by.now)) c.args.trees.now c.loop-tree.tree-index c.tree-item.result c.loop-tree.made.items c.push.new.self.items c.in_ok-one.one
    c.loop-tree-test.true c.in_ok-push.ensures.items (c.in_ok-one.ensures ∙ ap (substitute (image c.args.by.now)) c.tree-item.is) c.loop-tree.invariant
