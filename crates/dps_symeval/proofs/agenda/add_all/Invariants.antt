use Rattle.std.proofs.Common.{◌≡◌, ◌++◌, map, take, drop}
use Rattle.dps_terms.specs.Seen.{seen}
use Rattle.dps_symeval.specs.Agenda.{with_result}
use Rattle.dps_symeval.proofs.agenda.add_all.Given as goal

abbrev pub invariant-loop-choice : goal.invariant-loop-choice
invariant-loop-choice l = l.choices ≡ map (λ c. with_result c (seen l.term)) (take l.choice-index l.initial.choices) ++ drop l.choice-index l.initial.choices
