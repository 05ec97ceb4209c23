use Rattle.std.proofs.Common.{map}
use Rattle.dps_terms.specs.Bindings.{image}
use Rattle.dps_bindings.specs.Putting.{under}
use Rattle.dps_bindings.proofs.Puts.{ArePut}
use Rattle.dps_bindings.proofs.bindings.then.Given as goal

abbrev pub invariant-loop-variable : goal.invariant-loop-variable
invariant-loop-variable l = ArePut l.by (map (under (image l.by)) l.before) l.variables l.variable-index l.after
