use Rattle.std.proofs.Common.{◌≡◌, map, take}
use Rattle.dps_terms.specs.Bindings.{image}
use Rattle.dps_terms.specs.Replace.{substitute}
use Rattle.dps_solver.specs.Solutions.{valued}
use Rattle.dps_node.proofs.valuation.values_under.Given as goal

abbrev pub invariant-loop-value : goal.invariant-loop-value
invariant-loop-value l = l.made.items ≡ map (substitute (valued l.made.items (image l.by))) (take l.value-index l.values)
