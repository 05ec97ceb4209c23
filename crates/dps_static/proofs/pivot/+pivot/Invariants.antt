use Rattle.std.proofs.Common.{◌+◌, ◌*◌}
use Rattle.std.specs.Prelude.{All}
use Rattle.dps_terms.specs.Tree.{node_count}
use Rattle.dps_terms.specs.Views.{arguments}
use Rattle.dps_terms.specs.Seen.{seen}
use Rattle.dps_static.specs.Binding.{BindsParts}
use Rattle.dps_static.proofs.Cutting.{CoversPivots}
use Rattle.dps_static.proofs.pivot.+pivot.Given as goal

abbrev pub decreases-with_new : goal.decreases-with_new
decreases-with_new l = 2 * node_count (seen l.pattern) + 1

abbrev pub decreases-with_new_below : goal.decreases-with_new_below
decreases-with_new_below l = 2 * node_count (seen l.pattern)

abbrev pub invariant-with_new_below-loop-pivot : goal.invariant-with_new_below-loop-pivot
invariant-with_new_below-loop-pivot l = record {
  covers : CoversPivots l.kept l.asked (arguments (seen l.pattern)) l.pivot l.start l.found.items;
  parts : All (BindsParts l.kept l.free) l.found.items;
}
