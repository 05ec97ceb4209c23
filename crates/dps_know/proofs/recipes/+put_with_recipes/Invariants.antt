use Rattle.std.proofs.Common.{◌≤◌, length}
use Rattle.dps_terms.specs.Tree.{node_count}
use Rattle.dps_terms.specs.Views.{arguments}
use Rattle.dps_terms.specs.Replace.{put_entries}
use Rattle.dps_terms.specs.Seen.{seen}
use Rattle.dps_know.proofs.Walks.{IsWalked}
use Rattle.dps_know.proofs.recipes.+put_with_recipes.Given as goal

abbrev pub decreases-put_with_recipes : goal.decreases-put_with_recipes
decreases-put_with_recipes l = node_count (seen l.tree)

abbrev pub invariant-loop-left : goal.invariant-loop-left
invariant-loop-left l = record {
  within : l.left ≤ length (arguments (seen l.tree));
  so_far : IsWalked (put_entries l.recipes) (seen l.tree) l.left l.fn.stack l.stack;
}

abbrev pub decreases-loop-left : goal.decreases-loop-left
decreases-loop-left l = l.left
