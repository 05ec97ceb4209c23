use Rattle.std.proofs.Common.{◌≡◌, Some, drop}
use Rattle.dps_trace.specs.Scanning.{numeral_from}
use Rattle.dps_trace.proofs.words.numeral.Given as goal

abbrev pub invariant-loop-digit : goal.invariant-loop-digit
invariant-loop-digit l = numeral_from (Some 0) l.digits ≡ numeral_from (Some l.number) (drop l.digit-index l.digits)
