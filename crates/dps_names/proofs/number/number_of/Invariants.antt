use Rattle.std.proofs.Common.{drop}
use Rattle.dps_names.proofs.Numbers.{IsReading}
use Rattle.dps_names.proofs.number.number_of.Given as goal

abbrev pub invariant-loop-byte : goal.invariant-loop-byte
invariant-loop-byte l = IsReading l.byte-items (drop l.byte-index l.byte-items) l.value
