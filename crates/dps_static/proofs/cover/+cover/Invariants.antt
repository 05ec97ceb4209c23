use Rattle.std.proofs.Common.{◌+◌, ◌*◌}
use Rattle.std.specs.Prelude.{All}
use Rattle.dps_terms.specs.Tree.{node_count}
use Rattle.dps_terms.specs.Views.{arguments}
use Rattle.dps_terms.specs.Seen.{seen}
use Rattle.dps_static.specs.Binding.{BindsParts}
use Rattle.dps_static.specs.Cuts.{CoversArguments}
use Rattle.dps_static.proofs.cover.+cover.Given as goal

abbrev pub decreases-cover : goal.decreases-cover
decreases-cover l = 2 * node_count (seen l.pattern) + 1

abbrev pub decreases-cover_arguments : goal.decreases-cover_arguments
decreases-cover_arguments l = 2 * node_count (seen l.pattern)

abbrev pub invariant-cover_arguments-loop-index : goal.invariant-cover_arguments-loop-index
invariant-cover_arguments-loop-index l = record {
  covers : CoversArguments l.kept l.to (arguments (seen l.pattern)) l.first l.index l.fn.start.items l.found.items;
  parts : All (BindsParts l.kept l.free) l.found.items;
}
