use Rattle.std.proofs.Common.{◌≡◌, ◌+◌, ◌≤◌, drop}
use Rattle.std.specs.Prelude.{max}
use Rattle.dps_theory.specs.Overlaps.{least_above}
use Rattle.dps_symeval.proofs.narrowing.next_after.Given as goal

abbrev pub invariant-loop-variable : goal.invariant-loop-variable
invariant-loop-variable l = record {
  above : l.next ≤ l.after;
  rest : max l.after (l.next + least_above (drop l.variable-index l.variable-items)) ≡ l.next + least_above l.variable-items;
}
