use Rattle.std.proofs.Common.{ap}
use Rattle.dps_theory.specs.Theory.{Theory}
use Rattle.dps_rules.proofs.theory.theory_of.Goals as goal

pub returns-in-Ok-check-clause-lawful : goal.returns-in-Ok-check-clause-lawful
returns-in-Ok-check-clause-lawful c =
    let e = c.in-Ok-check.ensures in
    rw (← c.program.view_is)
    (record {
      same_symbols = ap (λ (t : Theory). t.shapes) e.theory;
      accepted = e.accepted;
      rules_over = e.over;
      rules_plain = e.plain;
    })
