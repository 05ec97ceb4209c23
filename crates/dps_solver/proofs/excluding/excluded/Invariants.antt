use Rattle.dps_terms.specs.Bindings.{image}
use Rattle.dps_solver.specs.declared.scene.Disequation.{Disequation}
use Rattle.dps_solver.specs.Solutions.{IsMatchedUnder}
use Rattle.dps_solver.specs.Code.{disequation_of}
use Rattle.dps_solver.proofs.Each.{HoldsOfFirst}
use Rattle.dps_solver.proofs.excluding.excluded.Given as goal

abbrev pub invariant-loop-disequation : goal.invariant-loop-disequation
invariant-loop-disequation l = HoldsOfFirst (λ (d : Disequation). ¬ IsMatchedUnder (image l.bindings) (disequation_of d)) l.disequations l.disequation-index
