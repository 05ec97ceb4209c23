use Rattle.std.proofs.Common.{take}
use Rattle.dps_semantics.proofs.Singles.{NumbersBelow}
use Rattle.dps_semantics.proofs.once.numbers_of.Given as goal

abbrev pub invariant-loop-index : goal.invariant-loop-index
invariant-loop-index l = NumbersBelow (take l.index l.processes) l.fn.table l.table l.numbers.items
