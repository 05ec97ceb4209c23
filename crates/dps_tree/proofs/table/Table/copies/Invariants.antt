use Rattle.std.proofs.Common.{◌≡◌, take}
use Rattle.dps_tree.specs.Table.{frame_of}
use Rattle.dps_tree.proofs.table.Table.copies.Given as goal

abbrev pub invariant-loop-number : goal.invariant-loop-number
invariant-loop-number l = l.copies.items ≡ frame_of l.fn.self (take l.number-index l.numbers)
