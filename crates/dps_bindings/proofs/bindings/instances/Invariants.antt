use Rattle.std.proofs.Common.{◌≡◌, map, take}
use Rattle.dps_terms.specs.Bindings.{image}
use Rattle.dps_bindings.specs.Putting.{under}
use Rattle.dps_bindings.proofs.bindings.instances.Given as goal

abbrev pub invariant-loop-index : goal.invariant-loop-index
invariant-loop-index l = l.after ≡ map (under (image l.by)) (take l.index l.before)
