use Rattle.dps_know.proofs.Recorded.{HoldNoneOf}
use Rattle.dps_know.proofs.know.holds_none.Given as goal

abbrev pub invariant-loop-entry : goal.invariant-loop-entry
invariant-loop-entry l = HoldNoneOf l.entries l.entry-index l.tree
