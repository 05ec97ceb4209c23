use Rattle.std.proofs.Common.{◌≡◌, ℕ, ◌<◌, slice_get, Some}
use Rattle.dps_terms.specs.Seen.{seen}
use Rattle.dps_static.proofs.kept.place_from.Given as goal

abbrev pub invariant-loop-place : goal.invariant-loop-place
invariant-loop-place l = (k : ℕ) → k < l.place → ¬ (slice_get l.trees k ≡ Some (seen l.tree))
