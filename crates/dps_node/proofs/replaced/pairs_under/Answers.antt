use Rattle.std.proofs.Common.{◌≡◌, get_or, ap, ◌∙◌}
use Rattle.dps_terms.specs.Tree.{Tree}
use Rattle.dps_terms.specs.Bindings.{image}
use Rattle.dps_terms.specs.Replace.{substitute}
use Rattle.dps_node.proofs.Mapped.{mapped_more}
use Rattle.dps_node.proofs.replaced.pairs_under.Goals as goal

pub loop-tree-preserved : goal.loop-tree-preserved
loop-tree-preserved c =
    let f : Tree × Tree → Tree × Tree = λ p. (substitute (image c.args.by.now) p.0, substitute (image c.args.by.now) p.1) in
    let d = c.loop-tree-item.result in
    let i = c.loop-tree.tree-index in
    let left = c.in_ok-tree.ensures in
    let right = c.in_ok-pattern.ensures in
    let one : (c.in_ok-tree.tree, c.in_ok-pattern.pattern) ≡ f (get_or c.args.pairs.now i d) = (λ k. (left k, right k)) ∙ ap f c.loop-tree-item.is in
    mapped_more f c.args.pairs.now i d c.loop-tree.made.items c.push.new.self.items (c.in_ok-tree.tree, c.in_ok-pattern.pattern)
    c.loop-tree-test.true c.in_ok-push.ensures.items one c.loop-tree.invariant
