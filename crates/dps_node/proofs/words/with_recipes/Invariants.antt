use Rattle.std.proofs.Common.{◌≡◌, map, take}
use Rattle.dps_know.specs.Know.{recipe_of}
use Rattle.dps_process.specs.Labels.{label_of}
use Rattle.dps_node.specs.Node.{label_under}
use Rattle.dps_node.proofs.words.with_recipes.Given as goal

abbrev pub invariant-loop-label : goal.invariant-loop-label
invariant-loop-label l = map label_of l.made.items ≡ map (label_under (recipe_of l.know)) (map label_of (take l.label-index l.labels))
