use Rattle.std.proofs.Common.{◌≡◌, ◌++◌, ◌-◌, map}
use Rattle.std.specs.List.{range_with_len}
use Rattle.dps_theory.specs.Projections.{projection_rule}
use Rattle.dps_theory.proofs.projections.push_rules.Given as goal

abbrev pub invariant-loop-place : goal.invariant-loop-place
invariant-loop-place l =
    l.rules.items ≡ l.fn.rules.items ++ map (projection_rule l.signature l.tuple l.length) (range_with_len 1 (l.place - 1))
