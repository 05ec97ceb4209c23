use Rattle.std.proofs.Common.{◌≡◌, map, take}
use Rattle.dps_terms.specs.Replace.{substitute}
use Rattle.dps_unify.specs.Chain.{solved}
use Rattle.dps_unify.proofs.Unifying.{with_second}
use Rattle.dps_unify.proofs.solution.solution.Given as goal

abbrev pub invariant-loop-index : goal.invariant-loop-index
invariant-loop-index l = l.solution ≡ map (with_second (substitute (solved l.bindings))) (take l.index l.bindings)
