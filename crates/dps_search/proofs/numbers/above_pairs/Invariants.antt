use Rattle.std.proofs.Common.{◌≡◌, max, drop}
use Rattle.std.specs.List.{flat_map}
use Rattle.dps_solver.specs.Search.{least_above}
use Rattle.dps_search.specs.Numbers.{pair_numbers}
use Rattle.dps_search.proofs.numbers.above_pairs.Given as goal

abbrev pub invariant-loop-pair : goal.invariant-loop-pair
invariant-loop-pair l = max l.above (least_above (flat_map pair_numbers (drop l.pair-index l.pairs))) ≡ max l.next (least_above (flat_map pair_numbers l.pairs))
