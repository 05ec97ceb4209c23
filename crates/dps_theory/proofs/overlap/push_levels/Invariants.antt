use Rattle.std.proofs.Common.{◌≡◌, ◌++◌, drop, length}
use Rattle.dps_theory.specs.Overlaps.{levels_from}
use Rattle.dps_theory.proofs.overlap.push_levels.Given as goal

abbrev pub invariant-loop-variable : goal.invariant-loop-variable
invariant-loop-variable l =
    l.levels.items ++ levels_from (length l.levels.items) (drop l.variable-index l.variables) ≡ l.fn.levels.items ++ levels_from (length l.fn.levels.items) l.variables
