use Rattle.std.proofs.Common.{take}
use Rattle.dps_tree.specs.Groups.{HoldsFrame}
use Rattle.dps_tree.specs.Matching.{AreJust}
use Rattle.dps_tree.proofs.matching.frames.Given as goal

abbrev pub invariant-loop-group : goal.invariant-loop-group
invariant-loop-group l = AreJust l.frames.items (HoldsFrame l.fn.table (take l.group-index l.groups))
