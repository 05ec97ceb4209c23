use Rattle.dps_elab.specs.Turns.{IsTurned, weight}
use Rattle.dps_elab.proofs.settle.settle.Given as goal

abbrev pub invariant-turns : goal.invariant-turns
invariant-turns l = IsTurned l.fn.scope l.fn.stack.items l.fn.body l.fn.name l.inner l.stack.items l.next l.name

abbrev pub decreases-turns : goal.decreases-turns
decreases-turns l = weight l.inner.definitions.now l.next
