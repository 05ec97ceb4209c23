use Rattle.std.specs.Prelude.{reverse}
use Rattle.dps_terms.specs.Replace.{substitute}
use Rattle.dps_terms.specs.Seen.{seen}
use Rattle.dps_unify.specs.Chain.{solved}
use Rattle.dps_unify.specs.Places.{Finishes}
use Rattle.dps_unify.proofs.solution.solve.Given as goal

abbrev pub invariant-loop : goal.invariant-loop
invariant-loop l = Finishes (substitute (solved l.bindings)) (reverse l.places.items) l.stack (substitute (solved l.bindings) (seen l.term))
