use Rattle.std.proofs.Common.{◌≡◌, max, drop, map}
use Rattle.dps_solver.specs.Search.{least_above}
use Rattle.std.proofs.Common.{ℕ}
use Rattle.dps_search.proofs.numbers.above_levels.Given as goal

abbrev pub invariant-loop-pair : goal.invariant-loop-pair
invariant-loop-pair l = max l.above (least_above (map (λ (p : ℕ × ℕ). p.0) (drop l.pair-index l.levels))) ≡ max l.next (least_above (map (λ (p : ℕ × ℕ). p.0) l.levels))
