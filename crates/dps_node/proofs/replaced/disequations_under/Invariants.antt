use Rattle.std.proofs.Common.{◌≡◌, map, take}
use Rattle.dps_terms.specs.Bindings.{image}
use Rattle.dps_solver.specs.Code.{disequation_of}
use Rattle.dps_node.specs.Splits.{disequation_under}
use Rattle.dps_node.proofs.replaced.disequations_under.Given as goal

abbrev pub invariant-loop-disequation : goal.invariant-loop-disequation
invariant-loop-disequation l =
    map disequation_of l.made.items ≡ map (disequation_under (image l.by)) (map disequation_of (take l.disequation-index l.disequations))
