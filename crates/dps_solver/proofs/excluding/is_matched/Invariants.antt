use Rattle.dps_terms.specs.Bindings.{image}
use Rattle.dps_solver.proofs.Matching.{IsSolvedBy}
use Rattle.dps_solver.proofs.excluding.is_matched.Given as goal

abbrev pub invariant-loop-pair : goal.invariant-loop-pair
invariant-loop-pair l = IsSolvedBy l.disequation.free.items (image l.bindings) l.pair-items l.pair-index l.solution
