use Rattle.std.proofs.Common.{◌≡◌, take}
use Rattle.dps_unify.specs.Difference.{pairs_of}
use Rattle.dps_unify.proofs.pending.borrowed.Given as goal

abbrev pub invariant-loop-pair : goal.invariant-loop-pair
invariant-loop-pair l = pairs_of l.pairs.items ≡ take l.pair-index l.terms
