use Rattle.std.proofs.Common.{take}
use Rattle.dps_process.specs.Labels.{label_of}
use Rattle.dps_semantics.specs.Following.{AreFollowing}
use Rattle.dps_semantics.proofs.running.following.Given as goal

abbrev pub invariant-loop-index : goal.invariant-loop-index
invariant-loop-index l = AreFollowing l.problem (take l.index l.configs) (label_of l.label) l.found.items
