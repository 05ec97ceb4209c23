use Rattle.std.proofs.Common.{◌≤◌, length}
use Rattle.dps_terms.specs.Seen.{seen}
use Rattle.dps_terms.specs.Views.{arguments}
use Rattle.dps_symeval.specs.Agenda.{IsBegun}
use Rattle.dps_symeval.proofs.agenda.begin.Given as goal

abbrev pub invariant-loop-left : goal.invariant-loop-left
invariant-loop-left l = record {
  within : l.left ≤ length (arguments (seen l.term));
  begun : IsBegun (seen l.term) l.left l.fn.agenda.items l.agenda.items;
}

abbrev pub decreases-loop-left : goal.decreases-loop-left
decreases-loop-left l = l.left
