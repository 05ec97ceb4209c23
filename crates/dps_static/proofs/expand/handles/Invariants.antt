use Rattle.std.proofs.Common.{◌≡◌}
use Rattle.dps_static.specs.Handles.{handles}
use Rattle.dps_static.proofs.expand.handles.Given as goal

abbrev pub invariant-loop-i : goal.invariant-loop-i
invariant-loop-i l = l.recipes.items ≡ handles l.i
