use Rattle.std.proofs.Common.{length}
use Rattle.dps_process.specs.Labels.{label_of}
use Rattle.dps_semantics.proofs.Following.{NextBelow}
use Rattle.dps_semantics.proofs.running.add_following.Given as goal

abbrev pub invariant-loop-next : goal.invariant-loop-next
invariant-loop-next l = NextBelow l.problem l.config (label_of l.label) l.initial.left.items l.fn.found.items l.left.items l.found.items

abbrev pub decreases-loop-next : goal.decreases-loop-next
decreases-loop-next l = length l.left.items
