use Rattle.std.proofs.Common.{take}
use Rattle.dps_tree.specs.Groups.{AreAmong}
use Rattle.dps_tree.proofs.matching.have_same_frames.Given as goal

abbrev pub invariant-loop-group : goal.invariant-loop-group
invariant-loop-group l = AreAmong (take l.group-index l.groups) l.fn.others
