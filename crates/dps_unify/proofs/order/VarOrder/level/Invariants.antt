use Rattle.std.proofs.Common.{◌≡◌, drop}
use Rattle.dps_unify.specs.Order.{level_of}
use Rattle.dps_unify.proofs.order.VarOrder.level.Given as goal

abbrev pub invariant-loop-pair : goal.invariant-loop-pair
invariant-loop-pair l = level_of (drop l.pair-index l.pair-items) l.variable ≡ level_of l.pair-items l.variable
