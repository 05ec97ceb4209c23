use Rattle.std.proofs.Common.{length}
use Rattle.dps_report.proofs.TestsRead.{AreTestsRead}
use Rattle.dps_report.proofs.reading.read_tests.Given as goal

abbrev pub invariant-tests : goal.invariant-tests
invariant-tests l = AreTestsRead l.fn.bytes l.tests l.rest

abbrev pub decreases-tests : goal.decreases-tests
decreases-tests l = length l.rest
