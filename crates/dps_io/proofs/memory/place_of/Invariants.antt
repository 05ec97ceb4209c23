use Rattle.std.proofs.Common.{◌≡◌, drop}
use Rattle.dps_io.specs.Held.{held, bytes_named}
use Rattle.dps_io.proofs.memory.place_of.Given as goal

abbrev pub invariant-loop-place : goal.invariant-loop-place
invariant-loop-place l = bytes_named (held (drop l.place l.files)) l.name ≡ bytes_named (held l.files) l.name
