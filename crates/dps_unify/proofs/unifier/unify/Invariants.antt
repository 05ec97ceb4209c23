use Rattle.dps_unify.specs.Kept.{trees_of}
use Rattle.dps_unify.proofs.Unifying.{Searches, pair_places}
use Rattle.dps_unify.proofs.unifier.unify.Given as goal

abbrev pub invariant-loop-bindings : goal.invariant-loop-bindings
invariant-loop-bindings l = Searches l.order.levels.items (trees_of l.fn.pending) l.bindings l.pending

abbrev pub decreases-loop-bindings : goal.decreases-loop-bindings
decreases-loop-bindings l = pair_places l.bindings (trees_of l.fn.pending)
