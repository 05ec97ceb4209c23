use Rattle.dps_syntax.proofs.Stack.{IsTurned, wait}
use Rattle.dps_syntax.proofs.expected.Expected.turn.Given as goal

abbrev pub invariant-turn : goal.invariant-turn
invariant-turn l = IsTurned l.next l.fn.self l.self l.fn.marks.items l.marks.items

abbrev pub decreases-turn : goal.decreases-turn
decreases-turn l = wait l.self
