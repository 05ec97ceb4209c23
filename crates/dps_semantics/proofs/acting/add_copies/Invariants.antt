use Rattle.std.proofs.Common.{◌≡◌, ◌++◌, take}
use Rattle.dps_semantics.proofs.acting.add_copies.Given as goal

abbrev pub invariant-loop-index : goal.invariant-loop-index
invariant-loop-index l = l.copies.items ≡ l.fn.copies.items ++ take l.index l.processes
