use Rattle.std.proofs.Common.{◌≡◌, ◌++◌, map, take, drop}
use Rattle.dps_symeval.specs.Agenda.{constructed_last}
use Rattle.dps_symeval.proofs.agenda.construct_all.Given as goal

abbrev pub invariant-loop-choice : goal.invariant-loop-choice
invariant-loop-choice l = l.choices ≡ map (constructed_last l.sym l.arity) (take l.choice-index l.initial.choices) ++ drop l.choice-index l.initial.choices
