use Rattle.std.proofs.Common.{◌≡◌, ℕ, ◌||◌, drop}
use Rattle.std.specs.Ordering.{nat_cmp}
use Rattle.std.specs.BTreeSet as tree
use Rattle.dps_elab.specs.Meaning.{is_channel}
use Rattle.dps_elab.proofs.expanding.channel_names.Given as goal

abbrev pub invariant-loop-channel : goal.invariant-loop-channel
invariant-loop-channel l = (n : ℕ) → (tree.contains nat_cmp l.names n || is_channel (drop l.channel-index l.channels) n) ≡ is_channel l.channels n
