use Rattle.std.proofs.Common.{subst}
use Rattle.dps_report.specs.Outcomes.{Names}
use Rattle.dps_report.proofs.ReportRead.{no_name}
use Rattle.dps_report.proofs.reading.read_named.Goals as goal

pub returns-in-None-clause-only : goal.returns-in-None-clause-only
returns-in-None-clause-only c = λ model rest names e. no_name c.args.bytes.now c.in-None.ensures.none model rest (subst (λ f. Names f model) c.in-Second.is names) e
