use Rattle.std.proofs.Common.{◌≡◌, map, take}
use Rattle.dps_solver.specs.Code.{disequation_of}
use Rattle.dps_node.proofs.copying.copies_of_disequations.Given as goal

abbrev pub invariant-loop-disequation : goal.invariant-loop-disequation
invariant-loop-disequation l = map disequation_of l.made.items ≡ map disequation_of (take l.disequation-index l.disequations)
