use Rattle.std.proofs.Common.{length}
use Rattle.dps_replay.proofs.Partners.{IsLeftPaired}
use Rattle.dps_replay.proofs.pairing.pairs.Given as goal

abbrev pub invariant-loop-end : goal.invariant-loop-end
invariant-loop-end l = IsLeftPaired l.fn.ends.items l.others l.partners l.left.items l.pairs.items

abbrev pub decreases-loop-end : goal.decreases-loop-end
decreases-loop-end l = length l.left.items
