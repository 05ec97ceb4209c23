use Rattle.std.proofs.Common.{◌≡◌, take}
use Rattle.dps_symeval.proofs.narrowing.copies_of_pairs.Given as goal

abbrev pub invariant-loop-left : goal.invariant-loop-left
invariant-loop-left l = l.copies.items ≡ take l.left-index l.pairs
