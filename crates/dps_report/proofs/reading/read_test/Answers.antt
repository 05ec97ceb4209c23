use Rattle.std.proofs.Common.{refl}
use Rattle.dps_report.proofs.TestsRead.{false_is_no_answer}
use Rattle.dps_report.proofs.reading.read_test.Goals as goal

pub returns-then-not-is_test-clause-only : goal.returns-then-not-is_test-clause-only
returns-then-not-is_test-clause-only c = λ h. absurd (false_is_no_answer (c.if-not-is_test.ensures.1 h.test))

pub returns-in-Some-clause-found : goal.returns-in-Some-clause-found
returns-in-Some-clause-found c =
    let text = rw c.in-Some.is at c.in_ok-text.ensures.found in
    (text.0, record { test = c.if-not-is_test.ensures.0 refl; utf8 = text.1 })
