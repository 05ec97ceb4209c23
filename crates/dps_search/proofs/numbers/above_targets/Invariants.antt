use Rattle.std.proofs.Common.{◌≡◌, max, drop}
use Rattle.std.specs.List.{flat_map}
use Rattle.dps_solver.specs.Search.{least_above}
use Rattle.dps_search.specs.Numbers.{target_numbers}
use Rattle.dps_search.proofs.numbers.above_targets.Given as goal

abbrev pub invariant-loop-target : goal.invariant-loop-target
invariant-loop-target l = max l.above (least_above (flat_map target_numbers (drop l.target-index l.targets))) ≡ max l.next (least_above (flat_map target_numbers l.targets))
