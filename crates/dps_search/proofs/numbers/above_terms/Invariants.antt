use Rattle.std.proofs.Common.{◌≡◌, max, drop}
use Rattle.std.specs.List.{flat_map}
use Rattle.dps_solver.specs.Search.{least_above}
use Rattle.dps_terms.specs.Variables.{occurrences}
use Rattle.dps_search.proofs.numbers.above_terms.Given as goal

abbrev pub invariant-loop-term : goal.invariant-loop-term
invariant-loop-term l = max l.above (least_above (flat_map occurrences (drop l.term-index l.terms))) ≡ max l.next (least_above (flat_map occurrences l.terms))
