use Rattle.std.proofs.Common.{length}
use Rattle.dps_trace.proofs.Backward.{IsRead}
use Rattle.dps_trace.proofs.recipe.recipe_read.Given as goal

abbrev pub invariant-loop-byte : goal.invariant-loop-byte
invariant-loop-byte l = IsRead l.fn.signature l.fn.text l.front l.unread l.reading

abbrev pub decreases-loop-byte : goal.decreases-loop-byte
decreases-loop-byte l = length l.unread
