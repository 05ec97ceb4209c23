use Rattle.std.proofs.Common.{◌≤◌, ◌<◌, ℕ}
use Rattle.dps_theory.specs.Checkable.{HasDestructor}
use Rattle.dps_theory.proofs.checkable.has_destructors.Given as goal

abbrev pub invariant-loop-place : goal.invariant-loop-place
invariant-loop-place l = (i : ℕ) → 1 ≤ i → i < l.place → HasDestructor l.signature l.length i
