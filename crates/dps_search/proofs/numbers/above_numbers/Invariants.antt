use Rattle.std.proofs.Common.{◌≡◌, max, drop}
use Rattle.dps_solver.specs.Search.{least_above}
use Rattle.dps_search.proofs.numbers.above_numbers.Given as goal

abbrev pub invariant-loop-number : goal.invariant-loop-number
invariant-loop-number l = max l.above (least_above (drop l.number-index l.numbers)) ≡ max l.next (least_above l.numbers)
