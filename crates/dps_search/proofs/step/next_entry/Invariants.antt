use Rattle.std.proofs.Common.{◌≡◌, ◌+◌, ◌-◌, drop, length}
use Rattle.dps_solver.specs.Search.{entry_ways}
use Rattle.dps_search.proofs.step.next_entry.Given as goal

abbrev pub invariant-loop-place : goal.invariant-loop-place
invariant-loop-place l = entry_ways l.level (l.passed + 1) (drop l.passed l.know.entries) ≡ entry_ways l.level (l.place + 1) (drop l.place l.know.entries)

abbrev pub decreases-loop-place : goal.decreases-loop-place
decreases-loop-place l = length l.know.entries - l.place
