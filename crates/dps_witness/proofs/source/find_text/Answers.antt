use Rattle.std.proofs.Common.{refl, subst}
use Rattle.dps_witness.proofs.Sources.{OnlyReport, none_read}
use Rattle.dps_witness.proofs.source.find_text.Goals as goal

pub returns-in_default : goal.returns-in_default
returns-in_default c =
    none_read c.args.bytes.now (c.if-not-begins_report.ensures.0 refl) (subst (OnlyReport c.args.bytes.now) c.in_default.is c.in_ok-outcome.ensures.only)
