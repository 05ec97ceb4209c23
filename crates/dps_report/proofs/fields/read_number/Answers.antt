use Rattle.dps_report.proofs.FieldsRead.{no_number, number_unread, number_read}
use Rattle.dps_report.proofs.fields.read_number.Goals as goal

pub returns-in_default : goal.returns-in_default
returns-in_default c = no_number c.args.word.now c.args.bytes.now c.in_default.ensures.none

pub returns-in-Some-numeral : goal.returns-in-Some-numeral
returns-in-Some-numeral c =
    number_read c.args.word.now c.args.bytes.now c.in-Some.digits.now c.in-Some.rest.now c.in-Some-numeral.number c.in-Some.ensures.found c.in-Some-numeral.ensures

pub returns-in-None : goal.returns-in-None
returns-in-None c = number_unread c.args.word.now c.args.bytes.now c.in-Some.digits.now c.in-Some.rest.now c.in-Some.ensures.found c.in-None.ensures
