use Rattle.std.proofs.Common.{◌≤◌, ◌<◌, ℕ}
use Rattle.dps_theory.specs.Checkable.{HasProjectionsOf}
use Rattle.dps_theory.proofs.checkable.has_projections.Given as goal

abbrev pub invariant-loop-length : goal.invariant-loop-length
invariant-loop-length l = (n : ℕ) → 2 ≤ n → n < l.length → HasProjectionsOf l.signature n
