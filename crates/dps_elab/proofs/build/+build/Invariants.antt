use Rattle.std.proofs.Common.{◌+◌, ◌*◌, ◌≤◌, length, map, drop}
use Rattle.dps_terms.specs.Seen.{seen}
use Rattle.dps_terms.specs.Views.{arguments}
use Rattle.dps_elab.specs.Expansion.{tree_in}
use Rattle.dps_elab.specs.Locals.{in_frame, values}
use Rattle.dps_elab.specs.Writing.{ArePut}
use Rattle.dps_elab.proofs.build.+build.Given as goal

abbrev pub decreases-put_term : goal.decreases-put_term
decreases-put_term l = 3 * (l.depth + l.frame.end) + 2

abbrev pub decreases-put_arguments : goal.decreases-put_arguments
decreases-put_arguments l = 3 * (l.depth + l.frame.end) + 3

abbrev pub decreases-put_local : goal.decreases-put_local
decreases-put_local l = 3 * (l.depth + l.frame.end) + 1

abbrev pub decreases-put_arguments-loop-left : goal.decreases-put_arguments-loop-left
decreases-put_arguments-loop-left l = l.left

abbrev pub invariant-put_arguments-loop-left : goal.invariant-put_arguments-loop-left
invariant-put_arguments-loop-left l = record {
  within : l.left ≤ length (arguments (seen l.term));
  put : ArePut l.fn.nodes_left l.nodes_left l.depth (map (tree_in (in_frame (values l.stack) l.frame)) (drop l.left (arguments (seen l.term)))) l.fn.built l.built;
}
