use Rattle.std.proofs.Common.{take}
use Rattle.std.specs.List.{flat_map}
use Rattle.dps_symeval.specs.Agenda.{AreOpen, narrowed_last}
use Rattle.dps_symeval.proofs.narrowing.narrowed.Given as goal

abbrev pub invariant-loop-choice : goal.invariant-loop-choice
invariant-loop-choice l = AreOpen (flat_map (narrowed_last l.theory l.sym l.arity) (take l.choice-index l.choices)) l.found.items
