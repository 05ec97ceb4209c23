use Rattle.std.proofs.Common.{◌≡◌, ◌≤◌, ◌++◌, length, take, true, false}
use Rattle.std.specs.Prelude.{reverse}
use Rattle.dps_node.specs.Splits.{chosen}
use Rattle.dps_node.proofs.parts.parted.Given as goal

abbrev pub invariant-loop-config : goal.invariant-loop-config
invariant-loop-config l = record {
  within : length l.left.items ≤ length l.holds;
  these : chosen true (take (length l.left.items) l.holds) l.left.items ++ reverse l.these.items ≡ chosen true l.holds l.fn.configs.items;
  others : chosen false (take (length l.left.items) l.holds) l.left.items ++ reverse l.others.items ≡ chosen false l.holds l.fn.configs.items;
}

abbrev pub decreases-loop-config : goal.decreases-loop-config
decreases-loop-config l = length l.left.items
