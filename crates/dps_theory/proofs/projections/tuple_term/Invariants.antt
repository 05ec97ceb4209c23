use Rattle.std.proofs.Common.{◌≡◌, ◌-◌, map}
use Rattle.std.specs.List.{range_with_len}
use Rattle.dps_terms.specs.Tree.{leaf, var}
use Rattle.dps_theory.proofs.projections.tuple_term.Given as goal

abbrev pub invariant-loop-number : goal.invariant-loop-number
invariant-loop-number l = l.variables.items ≡ map (λ i. leaf (var i)) (range_with_len 1 (l.number - 1))
