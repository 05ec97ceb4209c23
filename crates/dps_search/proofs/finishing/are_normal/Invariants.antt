use Rattle.dps_terms.specs.Tree.{Tree}
use Rattle.dps_terms.specs.Bindings.{image}
use Rattle.dps_terms.specs.Replace.{substitute}
use Rattle.dps_know.specs.Know.{IsNormal}
use Rattle.dps_solver.proofs.Each.{HoldsOfFirst}
use Rattle.dps_search.proofs.finishing.are_normal.Given as goal

abbrev pub invariant-loop-label : goal.invariant-loop-label
invariant-loop-label l = HoldsOfFirst (λ (t : Tree). IsNormal l.recorded (substitute (image l.bindings) t)) l.labels l.label-index
