use Rattle.std.proofs.Common.{◌≡◌, length}
use Rattle.dps_signature.proofs.tests.chain.Given as goal

abbrev pub invariant-loop : goal.invariant-loop
invariant-loop l = length l.stack ≡ 1
