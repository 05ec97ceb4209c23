use Rattle.std.proofs.Common.{◌≡◌, take}
use Rattle.dps_bindings.proofs.bindings.substitution.Given as goal

abbrev pub invariant-loop-index : goal.invariant-loop-index
invariant-loop-index l = l.copies ≡ take l.index l.bindings
