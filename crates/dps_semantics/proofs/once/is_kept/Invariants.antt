use Rattle.std.proofs.Common.{ℕ, ◌<◌, get_or, map}
use Rattle.dps_semantics.specs.Once.{IsKeptAt}
use Rattle.dps_semantics.proofs.once.is_kept.Given as goal

abbrev pub invariant-loop-index : goal.invariant-loop-index
invariant-loop-index l = (k : ℕ) → k < l.index → ¬ IsKeptAt (map (λ key. key.items) l.keys) l.once (get_or l.places k 0) l.numbers l.frame
