use Rattle.std.proofs.Common.{◌≡◌, ◌++◌, map, length}
use Rattle.std.specs.Prelude.{reverse, All}
use Rattle.dps_terms.specs.Tree.{Tree}
use Rattle.dps_symeval.specs.Cases.{Choices, as_case}
use Rattle.dps_symeval.proofs.evaluation.as_cases.Given as goal

abbrev pub invariant-loop-choice : goal.invariant-loop-choice
invariant-loop-choice l = record {
  listed : (t : Tree) → l.cases.items ++ map (as_case t) (reverse l.choices.items) ≡ map (as_case t) l.fn.choices.items;
  one : All (λ (c : Choices). length c.results ≡ 1) l.choices.items;
}

abbrev pub decreases-loop-choice : goal.decreases-loop-choice
decreases-loop-choice l = length l.choices.items
