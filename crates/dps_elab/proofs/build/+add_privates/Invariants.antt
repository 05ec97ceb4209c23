use Rattle.std.proofs.Common.{◌≡◌, ◌++◌, drop}
use Rattle.dps_elab.specs.Expansion.{privates_of}
use Rattle.dps_elab.specs.Locals.{in_frame, values}
use Rattle.dps_elab.proofs.build.+add_privates.Given as goal

abbrev pub decreases-add_privates : goal.decreases-add_privates
decreases-add_privates l = l.frame.end

abbrev pub invariant-loop-item : goal.invariant-loop-item
invariant-loop-item l = l.found.items ++ privates_of (in_frame (values l.stack) l.frame) (drop l.item-index l.uses) ≡ l.fn.found.items ++ privates_of (in_frame (values l.stack) l.frame) l.uses
