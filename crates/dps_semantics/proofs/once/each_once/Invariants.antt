use Rattle.std.proofs.Common.{length, map}
use Rattle.dps_semantics.proofs.Singles.{OnceBelow}
use Rattle.dps_semantics.proofs.once.each_once.Given as goal

abbrev pub invariant-loop-config : goal.invariant-loop-config
invariant-loop-config l = OnceBelow l.fn.configs.items l.left.items l.table (map (λ key. key.items) l.keys.items) l.once.items l.places

abbrev pub decreases-loop-config : goal.decreases-loop-config
decreases-loop-config l = length l.left.items
