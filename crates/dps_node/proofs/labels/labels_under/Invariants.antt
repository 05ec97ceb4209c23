use Rattle.std.proofs.Common.{◌≡◌, map, take}
use Rattle.dps_terms.specs.Replace.{replace}
use Rattle.dps_process.specs.Labels.{label_of}
use Rattle.dps_node.specs.Node.{label_under}
use Rattle.dps_node.proofs.labels.labels_under.Given as goal

abbrev pub invariant-loop-label : goal.invariant-loop-label
invariant-loop-label g l = map label_of l.made.items ≡ map (label_under (replace (g.R.Replacement.becomes l.by))) (map label_of (take l.label-index l.labels))
