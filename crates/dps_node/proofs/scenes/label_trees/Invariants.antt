use Rattle.std.proofs.Common.{◌≡◌, map, filter_map, take}
use Rattle.dps_process.specs.Labels.{label_of}
use Rattle.dps_node.specs.Node.{label_tree}
use Rattle.dps_node.proofs.scenes.label_trees.Given as goal

abbrev pub invariant-loop-label : goal.invariant-loop-label
invariant-loop-label l = l.trees.items ≡ filter_map label_tree (map label_of (take l.label-index l.labels))
