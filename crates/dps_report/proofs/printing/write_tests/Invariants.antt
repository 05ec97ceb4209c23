use Rattle.std.proofs.Common.{◌≡◌, ◌++◌, drop, string_bytes}
use Rattle.dps_report.specs.Reports.{each_test}
use Rattle.dps_report.proofs.printing.write_tests.Given as goal

abbrev pub invariant-loop-test : goal.invariant-loop-test
invariant-loop-test l = string_bytes l.text ++ each_test (drop l.test-index l.tests) ≡ string_bytes l.initial.text ++ each_test l.tests
