use Rattle.std.proofs.Common.{take}
use Rattle.dps_semantics.specs.Parts.{StandForJust}
use Rattle.dps_semantics.specs.Coming.{AllComeTo}
use Rattle.dps_semantics.proofs.coming.all_come_to.Given as goal

abbrev pub invariant-loop-index : goal.invariant-loop-index
invariant-loop-index l = StandForJust (AllComeTo l.problem.theory (take l.index l.processes)) l.fn.parts l.parts l.bags
