use Rattle.std.proofs.Common.{◌≤◌}
use Rattle.dps_terms.specs.Bindings.{image}
use Rattle.dps_bindings.proofs.InTurn.{ArePutFrom}
use Rattle.dps_bindings.proofs.pieces.put_variables.Given as goal

abbrev pub invariant-loop-left : goal.invariant-loop-left
invariant-loop-left l = record {
  within : l.left ≤ l.count;
  so_far : ArePutFrom (image l.later) l.first l.left l.count l.fn.stack l.stack;
}

abbrev pub decreases-loop-left : goal.decreases-loop-left
decreases-loop-left l = l.left
