use Rattle.std.proofs.Common.{◌≡◌, map, filter_map, take}
use Rattle.std.specs.List.{flat_map}
use Rattle.dps_terms.specs.Variables.{occurrences, each_once}
use Rattle.dps_process.specs.Labels.{label_of}
use Rattle.dps_node.specs.Node.{label_tree}
use Rattle.dps_node.proofs.numbering.variables_of_labels.Given as goal

abbrev pub invariant-loop-label : goal.invariant-loop-label
invariant-loop-label l = l.found.keys ≡ each_once (flat_map occurrences (filter_map label_tree (map label_of (take l.label-index l.labels))))
