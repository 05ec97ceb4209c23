use Rattle.std.proofs.Common.{◌≡◌, ◌++◌, Some, map, take, drop}
use Rattle.std.specs.Prelude.{slice_get}
use Rattle.dps_core.specs.declared.rows.Row.{Row}
use Rattle.dps_core.specs.Book.{dropped_after}
use Rattle.dps_core.proofs.rows.drop_after.Given as goal

abbrev pub invariant-loop-place : goal.invariant-loop-place
invariant-loop-place l = (r : Row) → slice_get l.fn.rows.items l.index ≡ Some r → l.rows.items ≡ map (dropped_after r.path) (take l.place l.fn.rows.items) ++ drop l.place l.fn.rows.items
