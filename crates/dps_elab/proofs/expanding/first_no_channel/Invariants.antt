use Rattle.std.proofs.Common.{◌≡◌, drop}
use Rattle.dps_elab.specs.Meaning.{first_such, is_no_channel}
use Rattle.dps_elab.proofs.expanding.first_no_channel.Given as goal

abbrev pub invariant-loop-channel : goal.invariant-loop-channel
invariant-loop-channel l = first_such is_no_channel (drop l.channel-index l.channels) ≡ first_such is_no_channel l.channels
