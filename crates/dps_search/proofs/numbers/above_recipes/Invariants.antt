use Rattle.std.proofs.Common.{◌≡◌, max, drop}
use Rattle.std.specs.List.{flat_map}
use Rattle.dps_solver.specs.Search.{least_above}
use Rattle.dps_solver.specs.Search.{entry_numbers}
use Rattle.dps_search.proofs.numbers.above_recipes.Given as goal

abbrev pub invariant-loop-place : goal.invariant-loop-place
invariant-loop-place l = max l.above (least_above (flat_map entry_numbers (drop l.place l.know.entries))) ≡ max l.next (least_above (flat_map entry_numbers l.know.entries))
