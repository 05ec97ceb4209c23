use Rattle.std.proofs.Common.{◌+◌, ◌*◌, ◌≤◌, length}
use Rattle.dps_terms.specs.Tree.{node_count, trees}
use Rattle.dps_terms.specs.Seen.{seen}
use Rattle.dps_terms.specs.Walk.{subterms_from}
use Rattle.dps_recipes.specs.Values.{HaveValues}
use Rattle.dps_recipes.proofs.evaluation.+values.Given as goal

abbrev pub decreases-value_in : goal.decreases-value_in
decreases-value_in l = 2 * length l.frame.now + 1

abbrev pub decreases-put_value : goal.decreases-put_value
decreases-put_value l = 2 * length l.frame.now

abbrev pub decreases-value_in-loop-left : goal.decreases-value_in-loop-left
decreases-value_in-loop-left l = l.left

abbrev pub invariant-value_in-loop-left : goal.invariant-value_in-loop-left
invariant-value_in-loop-left l = record {
  within : l.left ≤ node_count (seen l.recipe);
  have : HaveValues l.theory l.frame (subterms_from (seen l.recipe) l.left) (trees l.values);
}
