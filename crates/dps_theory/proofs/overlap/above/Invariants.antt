use Rattle.std.proofs.Common.{◌≡◌, drop, max}
use Rattle.dps_theory.specs.Overlaps.{least_above}
use Rattle.dps_theory.proofs.overlap.above.Given as goal

abbrev pub invariant-loop-variable : goal.invariant-loop-variable
invariant-loop-variable l = max l.least (least_above (drop l.variable-index l.variables)) ≡ least_above l.variables
