use Rattle.std.proofs.Common.{◌≡◌, ◌≤◌, length, drop}
use Rattle.dps_terms.specs.Bindings.{image}
use Rattle.dps_bindings.specs.Pieces.{pairs_of}
use Rattle.dps_bindings.specs.Putting.{in_turn}
use Rattle.dps_bindings.proofs.pieces.put_in_turn.Given as goal

abbrev pub invariant-loop-left : goal.invariant-loop-left
invariant-loop-left l = record {
  within : l.left ≤ length l.given;
  so_far : image l.later ≡ in_turn (pairs_of (drop l.left l.given));
}

abbrev pub decreases-loop-left : goal.decreases-loop-left
decreases-loop-left l = l.left
