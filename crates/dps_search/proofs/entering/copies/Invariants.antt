use Rattle.std.proofs.Common.{◌≡◌, take}
use Rattle.dps_search.proofs.entering.copies.Given as goal

abbrev pub invariant-loop-target : goal.invariant-loop-target
invariant-loop-target l = l.made.items ≡ take l.target-index l.targets
