use Rattle.std.proofs.Common.{◌≡◌, max, drop}
use Rattle.std.specs.List.{flat_map}
use Rattle.dps_solver.specs.Search.{least_above}
use Rattle.dps_solver.specs.Search.{disequation_numbers}
use Rattle.dps_solver.specs.Code.{disequation_of}
use Rattle.dps_solver.specs.declared.scene.Disequation.{Disequation}
use Rattle.dps_search.proofs.numbers.above_disequations.Given as goal

abbrev pub invariant-loop-disequation : goal.invariant-loop-disequation
invariant-loop-disequation l =
    max l.above
    (least_above (flat_map (λ (d : Disequation). disequation_numbers (disequation_of d)) (drop l.disequation-index l.disequations)))
    ≡ max l.next (least_above (flat_map (λ (d : Disequation). disequation_numbers (disequation_of d)) l.disequations))
