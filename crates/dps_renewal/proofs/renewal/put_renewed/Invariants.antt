use Rattle.std.proofs.Common.{ℕ, List, ◌++◌, take}
use Rattle.dps_terms.specs.Bindings.{image}
use Rattle.dps_renewal.specs.Putting.{PutsFor, renewed}
use Rattle.dps_renewal.proofs.renewal.put_renewed.Given as goal

abbrev pub invariant-loop-variable : goal.invariant-loop-variable
invariant-loop-variable l =
    (xs : List ℕ) → PutsFor (renewed l.numbers.first l.numbers.fresh.now.keys (image l.bindings)) xs l.fn.by
    → PutsFor (renewed l.numbers.first l.numbers.fresh.now.keys (image l.bindings)) (xs ++ take l.variable-index l.variables) l.by
