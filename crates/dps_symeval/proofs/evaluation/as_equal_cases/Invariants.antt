use Rattle.std.proofs.Common.{◌≡◌, ◌++◌, List, map, length}
use Rattle.std.specs.Prelude.{reverse, All}
use Rattle.dps_terms.specs.Tree.{Tree}
use Rattle.dps_symeval.specs.Cases.{Case, Choices, ArePossible}
use Rattle.dps_symeval.specs.Agenda.{as_equal_case}
use Rattle.dps_symeval.proofs.evaluation.as_equal_cases.Given as goal

abbrev pub invariant-loop-choice : goal.invariant-loop-choice
invariant-loop-choice l = record {
  listed :
      (t u : Tree) (kept : List Case)
      → ArePossible (map (as_equal_case t u) (reverse l.choices.items)) kept
      → ArePossible (map (as_equal_case t u) l.fn.choices.items) (l.cases.items ++ kept);
  two : All (λ (c : Choices). length c.results ≡ 2) l.choices.items;
}

abbrev pub decreases-loop-choice : goal.decreases-loop-choice
decreases-loop-choice l = length l.choices.items
