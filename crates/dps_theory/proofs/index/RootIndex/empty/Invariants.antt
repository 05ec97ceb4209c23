use Rattle.std.proofs.Common.{◌≡◌, [], map, replicate}
use Rattle.dps_theory.proofs.index.RootIndex.empty.Given as goal

abbrev pub invariant-loop : goal.invariant-loop
invariant-loop l = map (λ v. v.items) l.by_root.items ≡ replicate l.counter []
