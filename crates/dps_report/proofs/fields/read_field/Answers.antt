use Rattle.dps_report.proofs.FieldsRead.{field_unended}
use Rattle.dps_report.proofs.fields.read_field.Goals as goal

pub returns-in-None-clause-none : goal.returns-in-None-clause-none
returns-in-None-clause-none c = field_unended c.args.word.now c.args.bytes.now c.in-Some.rest.now c.in-Some.ensures.found c.in-None.ensures.none
