use Rattle.std.proofs.Common.{◌≡◌, ◌+◌, ◌-◌, ◌≤◌, length}
use Rattle.std.specs.Prelude.{reverse}
use Rattle.dps_search.specs.Code.{scene_of, ask_of}
use Rattle.dps_search.specs.Agenda.{left_of}
use Rattle.dps_search.proofs.Agendas.{IsListing}
use Rattle.dps_search.proofs.search.solve.Given as goal

abbrev pub invariant-loop-task : goal.invariant-loop-task
invariant-loop-task l = record {
  lists : IsListing (scene_of l.scene) (ask_of l.ask) (reverse l.search.agenda.items) l.search.found.items (l.steps.used - l.fn.steps.used);
  no_less : l.fn.steps.used ≤ l.steps.used;
  no_more : l.steps.used ≤ l.steps.budget;
  budget : l.steps.budget ≡ l.fn.steps.budget;
}

abbrev pub decreases-loop-task : goal.decreases-loop-task
decreases-loop-task l = left_of l.steps + length l.search.agenda.items
