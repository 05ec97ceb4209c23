use Rattle.std.proofs.Common.{◌≡◌, ◌≤◌, max}
use Rattle.std.specs.List.{flat_map}
use Rattle.dps_terms.specs.Tree.{node_count}
use Rattle.dps_terms.specs.Seen.{seen}
use Rattle.dps_terms.specs.Walk.{subterms_from}
use Rattle.dps_terms.specs.Variables.{occurrences}
use Rattle.dps_solver.specs.Search.{least_above}
use Rattle.dps_search.proofs.numbers.above_term.Given as goal

abbrev pub invariant-loop-left : goal.invariant-loop-left
invariant-loop-left l = record {
  within : l.left ≤ node_count (seen l.nodes);
  so_far : l.above ≡ max l.next (least_above (flat_map occurrences (subterms_from (seen l.nodes) l.left)));
}

abbrev pub decreases-loop-left : goal.decreases-loop-left
decreases-loop-left l = l.left
