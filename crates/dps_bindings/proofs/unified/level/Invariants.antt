use Rattle.std.proofs.Common.{◌≡◌, drop}
use Rattle.dps_unify.specs.Order.{level_of}
use Rattle.dps_bindings.proofs.unified.level.Given as goal

abbrev pub invariant-loop-pair : goal.invariant-loop-pair
invariant-loop-pair l = level_of (drop l.pair-index l.levels) l.variable ≡ level_of l.levels l.variable
