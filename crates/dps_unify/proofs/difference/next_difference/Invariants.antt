use Rattle.dps_unify.specs.Chain.{solved}
use Rattle.dps_unify.specs.Kept.{trees_of}
use Rattle.dps_unify.proofs.Pairs.{weight}
use Rattle.dps_unify.proofs.Keeping.{Advances}
use Rattle.dps_unify.proofs.difference.next_difference.Given as goal

abbrev pub invariant-loop-parts : goal.invariant-loop-parts
invariant-loop-parts l = Advances l.bindings (trees_of l.fn.pending) l.pending

abbrev pub decreases-loop-parts : goal.decreases-loop-parts
decreases-loop-parts l = weight (solved l.bindings) (trees_of l.pending)
