use Rattle.std.proofs.Common.{take, true}
use Rattle.dps_tree.specs.Groups.{HoldsFrame}
use Rattle.dps_tree.specs.Matching.{AreMatchAnswer}
use Rattle.dps_tree.proofs.matching.are_matched.Given as goal

abbrev pub invariant-loop-group : goal.invariant-loop-group
invariant-loop-group l = AreMatchAnswer l.fn.theory (HoldsFrame l.fn.table (take l.group-index l.groups)) (HoldsFrame l.fn.table l.fn.others) true
