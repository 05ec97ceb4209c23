use Rattle.dps_report.proofs.FieldsRead.{no_place, no_colon_there, line_unread, column_unread, place_read}
use Rattle.dps_report.proofs.fields.read_place.Goals as goal

pub returns-in_default : goal.returns-in_default
returns-in_default c = no_place c.args.bytes.now c.in_default.ensures.none

pub returns-in_default-cut : goal.returns-in_default-cut
returns-in_default-cut c = no_colon_there c.args.bytes.now c.in-Some.place.now c.in-Some.rest.now c.in-Some.ensures.found c.in_default-cut.ensures.none

pub returns-in_default-short_numeral : goal.returns-in_default-short_numeral
returns-in_default-short_numeral c =
    line_unread c.args.bytes.now c.in-Some.place.now c.in-Some.rest.now c.in-Some-cut.line.now c.in-Some-cut.column.now c.in-Some.ensures.found c.in-Some-cut.ensures.found
    c.in_default-short_numeral.ensures

pub returns-in-Some-short_numeral-2 : goal.returns-in-Some-short_numeral-2
returns-in-Some-short_numeral-2 c =
    place_read c.args.bytes.now c.in-Some.place.now c.in-Some.rest.now c.in-Some-cut.line.now c.in-Some-cut.column.now c.in-Some-short_numeral.line
    c.in-Some-short_numeral-2.column c.in-Some.ensures.found c.in-Some-cut.ensures.found c.in-Some-short_numeral.ensures c.in-Some-short_numeral-2.ensures

pub returns-in-None : goal.returns-in-None
returns-in-None c =
    column_unread c.args.bytes.now c.in-Some.place.now c.in-Some.rest.now c.in-Some-cut.line.now c.in-Some-cut.column.now c.in-Some.ensures.found c.in-Some-cut.ensures.found
    c.in-None.ensures
