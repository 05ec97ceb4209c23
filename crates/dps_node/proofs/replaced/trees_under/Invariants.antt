use Rattle.std.proofs.Common.{◌≡◌, map, take}
use Rattle.dps_terms.specs.Bindings.{image}
use Rattle.dps_terms.specs.Replace.{substitute}
use Rattle.dps_node.proofs.replaced.trees_under.Given as goal

abbrev pub invariant-loop-tree : goal.invariant-loop-tree
invariant-loop-tree l = l.made.items ≡ map (substitute (image l.by)) (take l.tree-index l.trees)
