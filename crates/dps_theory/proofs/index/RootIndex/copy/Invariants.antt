use Rattle.std.proofs.Common.{◌≡◌, take, map}
use Rattle.dps_theory.proofs.index.RootIndex.copy.Given as goal

abbrev pub invariant-loop-places : goal.invariant-loop-places
invariant-loop-places l = map (λ v. v.items) l.by_root.items ≡ take l.places-index (map (λ v. v.items) l.places-items)
