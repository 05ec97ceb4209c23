use Rattle.std.proofs.Common.{◌≡◌, ℕ, map, take}
use Rattle.dps_renewal.proofs.numbers.numbers_of.Given as goal

abbrev pub invariant-loop-pair : goal.invariant-loop-pair
invariant-loop-pair l = l.numbers.items ≡ map (λ (p : ℕ × ℕ). p.0) (take l.pair-index l.variables)
