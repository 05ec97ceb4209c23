use Rattle.std.proofs.Common.{◌≡◌, true, false, length, rules, sym, ◌∙◌}
use Rattle.std.specs.Prelude.{◌==◌}
use Rattle.dps_report.proofs.TestsRead.{one_more, no_field_of_test, no_test, all_read}
use Rattle.dps_report.proofs.reading.read_tests.Goals as goal

pub returns-in_default : goal.returns-in_default
returns-in_default c =
    let some : (length c.tests.rest.now == 0) ≡ false = search rules in
    no_field_of_test c.args.bytes.now c.tests.tests c.tests.rest.now c.tests.invariant some c.in_default.ensures.none

pub returns-in_default-2 : goal.returns-in_default-2
returns-in_default-2 c =
    let some : (length c.tests.rest.now == 0) ≡ false = search rules in
    no_test c.args.bytes.now c.tests.tests c.tests.rest.now c.in-Some.test.now c.in-Some.behind.now c.tests.invariant some c.in-Some.ensures.found
    (λ t. sym c.in_default-2.is ∙ c.in_ok-text.ensures.only t)

pub tests-preserved : goal.tests-preserved
tests-preserved c =
    let some : (length c.tests.rest.now == 0) ≡ false = search rules in
    let text = rw c.in-Some-2.is at c.in_ok-text.ensures.found in
    one_more c.args.bytes.now c.tests.tests c.push.new.self c.tests.rest.now c.in-Some.test.now c.in-Some.behind.now c.in-Some-2.text c.tests.invariant some
    c.in-Some.ensures.found text.0 text.1 c.in_ok-push.ensures

pub returns : goal.returns
returns c =
    let none : (length c.tests.rest.now == 0) ≡ true = search rules in
    all_read c.args.bytes.now c.tests.tests c.tests.rest.now c.tests.invariant none
