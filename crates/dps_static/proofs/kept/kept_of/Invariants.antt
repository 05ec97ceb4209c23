use Rattle.std.proofs.Common.{◌≡◌, take}
use Rattle.dps_static.proofs.kept.kept_of.Given as goal

abbrev pub invariant-loop-tree : goal.invariant-loop-tree
invariant-loop-tree l = l.kept ≡ take l.tree-index l.trees
