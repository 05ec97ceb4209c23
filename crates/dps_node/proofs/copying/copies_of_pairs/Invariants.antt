use Rattle.std.proofs.Common.{◌≡◌, take}
use Rattle.dps_node.proofs.copying.copies_of_pairs.Given as goal

abbrev pub invariant-loop-tree : goal.invariant-loop-tree
invariant-loop-tree l = l.made.items ≡ take l.tree-index l.pairs
