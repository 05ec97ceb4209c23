use Rattle.std.proofs.Common.{◌≡◌, drop}
use Rattle.dps_node.specs.Asking.{binds_nothing}
use Rattle.dps_node.proofs.asking.binds_nothing.Given as goal

abbrev pub invariant-loop-pair : goal.invariant-loop-pair
invariant-loop-pair l = binds_nothing (drop l.pair-index l.levels) l.bindings ≡ binds_nothing l.levels l.bindings
