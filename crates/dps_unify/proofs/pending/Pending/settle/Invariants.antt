use Rattle.std.specs.Prelude.{length}
use Rattle.dps_unify.proofs.Keeping.{SettlesFrom}
use Rattle.dps_unify.proofs.pending.Pending.settle.Given as goal

abbrev pub invariant-loop-begun : goal.invariant-loop-begun
invariant-loop-begun l = SettlesFrom l.fn.self l.self

abbrev pub decreases-loop-begun : goal.decreases-loop-begun
decreases-loop-begun l = length l.self.begun.items
