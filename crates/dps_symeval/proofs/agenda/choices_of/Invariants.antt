use Rattle.std.proofs.Common.{[], ◌∷◌}
use Rattle.std.specs.Prelude.{reverse, All}
use Rattle.dps_symeval.specs.Agenda.{no_terms, weights, GoesOn, IsOpen}
use Rattle.dps_symeval.proofs.agenda.choices_of.Given as goal

abbrev pub invariant-loop-task : goal.invariant-loop-task
invariant-loop-task l = record {
  goes_on : GoesOn l.theory (reverse l.fn.agenda.items) (no_terms l.first ∷ []) (reverse l.agenda.items) l.choices.items;
  unifiable : All IsOpen l.choices.items;
}

abbrev pub decreases-loop-task : goal.decreases-loop-task
decreases-loop-task l = weights (reverse l.agenda.items)
