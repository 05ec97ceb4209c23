use Rattle.std.proofs.Common.{◌-◌}
use Rattle.dps_terms.specs.Seen.{seen}
use Rattle.dps_search.proofs.Walked.{IsFollowed}
use Rattle.dps_search.proofs.meeting.are_apart.Given as goal

abbrev pub invariant-loop-node : goal.invariant-loop-node
invariant-loop-node l = IsFollowed (seen l.value) (seen l.term) l.node

abbrev pub decreases-loop-node : goal.decreases-loop-node
decreases-loop-node l = l.count - l.node
