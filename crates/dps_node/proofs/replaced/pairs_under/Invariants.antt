use Rattle.std.proofs.Common.{◌≡◌, map, take}
use Rattle.dps_terms.specs.Tree.{Tree}
use Rattle.dps_terms.specs.Bindings.{image}
use Rattle.dps_terms.specs.Replace.{substitute}
use Rattle.dps_node.proofs.replaced.pairs_under.Given as goal

abbrev pub invariant-loop-tree : goal.invariant-loop-tree
invariant-loop-tree l =
    l.made.items ≡ map (λ (p : Tree × Tree). (substitute (image l.by) p.0, substitute (image l.by) p.1)) (take l.tree-index l.pairs)
