use Rattle.std.specs.Prelude.{Contains}
use Rattle.std.proofs.Common.{take, false}
use Rattle.dps_tree.specs.Matching.{IsMatchAnswer}
use Rattle.dps_tree.proofs.matching.is_alike_to_one.Given as goal

abbrev pub invariant-loop-other : goal.invariant-loop-other
invariant-loop-other l = IsMatchAnswer l.fn.theory l.fn.frame (Contains (take l.other-index l.others)) false
