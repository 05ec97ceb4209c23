use Rattle.std.proofs.Common.{◌≡◌, max, drop}
use Rattle.std.specs.List.{flat_map}
use Rattle.dps_solver.specs.Search.{least_above}
use Rattle.dps_search.specs.Numbers.{composition_numbers}
use Rattle.dps_search.proofs.numbers.above_compositions.Given as goal

abbrev pub invariant-loop-place : goal.invariant-loop-place
invariant-loop-place l = max l.above (least_above (flat_map composition_numbers (drop l.place l.know.entries))) ≡ max l.next (least_above (flat_map composition_numbers l.know.entries))
