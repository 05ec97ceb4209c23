use Rattle.std.proofs.Common.{◌≡◌, drop}
use Rattle.dps_renewal.specs.Numbering.{is_among}
use Rattle.dps_renewal.proofs.numbers.is_listed.Given as goal

abbrev pub invariant-loop-one : goal.invariant-loop-one
invariant-loop-one l = is_among l.number (drop l.one-index l.numbers) ≡ is_among l.number l.numbers
