use Rattle.std.proofs.Common.{◌≡◌, ◌++◌, map, length}
use Rattle.std.specs.Prelude.{reverse}
use Rattle.dps_node.specs.Asking.{found_at}
use Rattle.dps_node.proofs.asking.append.Given as goal

abbrev pub invariant-loop-solution : goal.invariant-loop-solution
invariant-loop-solution l = l.found.items ++ map (found_at l.place) (reverse l.solutions.items) ≡ l.fn.found.items ++ map (found_at l.place) l.fn.solutions.items

abbrev pub decreases-loop-solution : goal.decreases-loop-solution
decreases-loop-solution l = length l.solutions.items
