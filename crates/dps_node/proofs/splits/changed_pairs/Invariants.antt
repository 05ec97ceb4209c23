use Rattle.std.proofs.Common.{◌≡◌, take}
use Rattle.dps_renewal.specs.Putting.{changes}
use Rattle.dps_node.proofs.splits.changed_pairs.Given as goal

abbrev pub invariant-loop-variable : goal.invariant-loop-variable
invariant-loop-variable l = l.pairs.items ≡ changes l.by (take l.variable-index l.variables)
