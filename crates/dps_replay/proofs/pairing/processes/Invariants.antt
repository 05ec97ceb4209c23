use Rattle.std.proofs.Common.{◌≡◌, take}
use Rattle.dps_replay.proofs.pairing.processes.Given as goal

abbrev pub invariant-loop-index : goal.invariant-loop-index
invariant-loop-index l = l.copies.items ≡ take l.index l.given
