use Rattle.std.proofs.Common.{◌≡◌, drop}
use Rattle.dps_terms.specs.Bindings.{bound}
use Rattle.dps_bindings.proofs.bindings.place.Given as goal

abbrev pub invariant-loop-index : goal.invariant-loop-index
invariant-loop-index l = bound (drop l.index l.pairs) l.variable ≡ bound l.pairs l.variable
