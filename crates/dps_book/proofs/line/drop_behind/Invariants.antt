use Rattle.std.proofs.Common.{◌+◌}
use Rattle.dps_book.proofs.Cutting.{IsCutting, links, waits}
use Rattle.dps_book.proofs.line.drop_behind.Given as goal

abbrev pub invariant-loop-place : goal.invariant-loop-place
invariant-loop-place l = IsCutting l.fn.rows.items l.fn.next.items l.ticket l.rows.items l.next.items l.place l.dropped

abbrev pub decreases-loop-place : goal.decreases-loop-place
decreases-loop-place l = links l.next.items + waits l.place
