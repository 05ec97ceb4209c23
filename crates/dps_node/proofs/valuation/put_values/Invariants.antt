use Rattle.std.proofs.Common.{ℕ, List, ◌++◌, take}
use Rattle.dps_terms.specs.Bindings.{image}
use Rattle.dps_solver.specs.Solutions.{valued}
use Rattle.dps_renewal.specs.Putting.{PutsFor}
use Rattle.dps_node.proofs.valuation.put_values.Given as goal

abbrev pub invariant-loop-variable : goal.invariant-loop-variable
invariant-loop-variable l =
    (xs : List ℕ) → PutsFor (valued l.values (image l.by)) xs l.fn.valued → PutsFor (valued l.values (image l.by)) (xs ++ take l.variable-index l.variables) l.valued
