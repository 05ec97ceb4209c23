use Rattle.dps_terms.specs.Bindings.{image}
use Rattle.dps_bindings.proofs.Newly.{AreListed}
use Rattle.dps_bindings.proofs.unified.newly_bound.Given as goal

abbrev pub invariant-loop-variable : goal.invariant-loop-variable
invariant-loop-variable l = AreListed l.order.levels.items (image l.before) (image l.after) l.variables l.variable-index l.bound.items
