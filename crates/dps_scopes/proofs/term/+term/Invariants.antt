use Rattle.std.proofs.Common.{◌*◌, ◌+◌, drop}
use Rattle.dps_syntax.specs.Tree.{count}
use Rattle.dps_syntax.specs.Parts.{parts_of}
use Rattle.dps_scopes.specs.Blocks.{blocks}
use Rattle.dps_scopes.specs.Growth.{GrowsByTuples}
use Rattle.dps_scopes.specs.Terms.{terms}
use Rattle.dps_scopes.proofs.Rows.{Reads}
use Rattle.dps_scopes.proofs.term.+term.Given as goal

abbrev pub decreases-term : goal.decreases-term
decreases-term l = 2 * count (parts_of l.parts.now)

abbrev pub decreases-identified : goal.decreases-identified
decreases-identified l = 2 * count (parts_of l.arguments.now) + 1

abbrev pub decreases-bracketed : goal.decreases-bracketed
decreases-bracketed l = 2 * count (parts_of l.members.now) + 1

abbrev pub decreases-terms : goal.decreases-terms
decreases-terms l = 2 * count (parts_of l.parts.now)

abbrev pub invariant-terms-loop-part : goal.invariant-terms-loop-part
invariant-terms-loop-part l = record {
  reads : Reads (terms l.definitions (blocks l.scope)) (parts_of l.parts) l.initial.signature l.found.items (parts_of (drop l.part-index l.parts)) l.signature;
  grows : GrowsByTuples l.initial.signature l.signature;
}
