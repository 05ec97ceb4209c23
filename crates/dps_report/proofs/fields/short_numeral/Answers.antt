use Rattle.dps_report.proofs.FieldsRead.{numeral_read}
use Rattle.dps_report.proofs.fields.short_numeral.Goals as goal

pub returns-in-Some : goal.returns-in-Some
returns-in-Some c = numeral_read c.args.digits.now c.in-Some.number c.short_number.result c.in-Some.ensures c.short_number.ensures
