use Rattle.std.proofs.Common.{◌≡◌, map, take}
use Rattle.dps_terms.specs.Bindings.{image}
use Rattle.dps_terms.specs.Replace.{variables_to}
use Rattle.dps_process.specs.Process.{replace_in}
use Rattle.dps_node.proofs.configs.parts_under.Given as goal

abbrev pub invariant-loop-part : goal.invariant-loop-part
invariant-loop-part l = l.made.items ≡ map (replace_in (variables_to (image l.by))) (take l.part-index l.parts)
