use Rattle.std.proofs.Common.{◌<◌, ◌^◌, length, rules, subst, sym}
use Rattle.dps_report.specs.Finding.{FindsListedTests}
use Rattle.dps_report.proofs.TestsRead.{tests_read}
use Rattle.dps_report.proofs.reading.tests_like.Goals as goal

pub returns-in_ok-tests-in-Some : goal.returns-in_ok-tests-in-Some
returns-in_ok-tests-in-Some c =
    let small : length c.args.bytes.now < 2 ^ 64 = search rules in
    subst (λ f. FindsListedTests f c.args.bytes.now c.in_ok-tests-in-Some.tests) (sym c.in-Second.is)
    (tests_read c.args.bytes.now c.in-Some.rest.now c.in-Some.field-0-0 c.in_ok-tests-in-Some.tests small c.in-Some.ensures c.in_ok-tests-in-Some.ensures)
