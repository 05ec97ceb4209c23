use Rattle.std.proofs.Common.{◌≡◌, ◌≤◌, length, drop}
use Rattle.dps_terms.specs.Tree.{list_of}
use Rattle.dps_terms.specs.Replace.{replace_all}
use Rattle.dps_terms.specs.Cells.{forest}
use Rattle.dps_terms.proofs.replacement.instances.Given as goal

abbrev pub invariant-loop-left : goal.invariant-loop-left
invariant-loop-left g l = record {
  there : l.left ≤ length l.cells;
  made : l.stack ≡ list_of (replace_all (g.R.Replacement.becomes l.by) (forest (drop l.left l.cells)));
}

abbrev pub decreases-loop-left : goal.decreases-loop-left
decreases-loop-left g l = l.left
