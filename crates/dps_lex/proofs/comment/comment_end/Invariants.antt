use Rattle.std.proofs.Common.{length, ◌-◌, ◌≤◌, ◌+◌}
use Rattle.dps_lex.specs.Scanning.{IsPosition}
use Rattle.dps_lex.proofs.Comments.{IsNested}
use Rattle.dps_lex.proofs.comment.comment_end.Given as goal

abbrev pub invariant-loop-position : goal.invariant-loop-position
invariant-loop-position l = record {
  position : IsPosition l.bytes l.position;
  on : l.fn.from.at + 2 ≤ l.position.at;
  deep : l.depth ≤ l.position.at;
  nested : IsNested l.bytes (l.fn.from.at + 2) l.position.at l.depth;
}

abbrev pub decreases-loop-position : goal.decreases-loop-position
decreases-loop-position l = length l.bytes - l.position.at
