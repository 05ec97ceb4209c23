use Rattle.std.proofs.Common.{◌*◌, ◌+◌, drop}
use Rattle.dps_syntax.specs.Tree.{count}
use Rattle.dps_syntax.specs.Parts.{parts_of}
use Rattle.dps_scopes.specs.Blocks.{blocks}
use Rattle.dps_names.proofs.Members.{Takes}
use Rattle.dps_names.proofs.pattern.+pattern.Given as goal

abbrev pub decreases-read_pattern : goal.decreases-read_pattern
decreases-read_pattern l = 2 * count (parts_of l.parts.now)

abbrev pub decreases-tuple : goal.decreases-tuple
decreases-tuple l = 2 * count (parts_of l.parts.now) + 1

abbrev pub decreases-members : goal.decreases-members
decreases-members l = 2 * count (parts_of l.parts.now)

abbrev pub invariant-members-loop-part : goal.invariant-members-loop-part
invariant-members-loop-part l =
    Takes l.definitions (blocks l.outside) l.tuple.symbol.number l.tuple.local (parts_of l.parts) l.initial.so_far l.initial.signature (parts_of (drop l.part-index l.parts)) l.index l.so_far l.signature
