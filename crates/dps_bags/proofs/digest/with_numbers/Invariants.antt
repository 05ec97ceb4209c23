use Rattle.std.proofs.Common.{◌≡◌, drop}
use Rattle.dps_bags.specs.Digest.{numbers_digest}
use Rattle.dps_bags.proofs.digest.with_numbers.Given as goal

abbrev pub invariant-loop-number : goal.invariant-loop-number
invariant-loop-number l = numbers_digest l.digest (drop l.number-index l.numbers) ≡ numbers_digest l.fn.digest l.numbers
