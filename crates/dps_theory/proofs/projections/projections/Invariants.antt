use Rattle.std.proofs.Common.{◌≡◌, ◌-◌}
use Rattle.std.specs.List.{range_with_len, flat_map}
use Rattle.dps_theory.specs.Projections.{projections_of}
use Rattle.dps_theory.proofs.projections.projections.Given as goal

abbrev pub invariant-loop-length : goal.invariant-loop-length
invariant-loop-length l = l.rules.items ≡ flat_map (projections_of l.signature) (range_with_len 2 (l.length - 2))
