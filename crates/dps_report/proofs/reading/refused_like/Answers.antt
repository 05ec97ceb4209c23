use Rattle.std.proofs.Common.{◌<◌, ◌^◌, rules, sym, ◌∙◌}
use Rattle.dps_report.proofs.RefusedRead.{no_text_of_cause, refused_read}
use Rattle.dps_report.proofs.reading.refused_like.Goals as goal

pub returns-in-Some-2 : goal.returns-in-Some-2
returns-in-Some-2 c =
    let file : c.in-Some.file < 2 ^ 32 = search rules in
    let line : c.in-Some-read_place.line < 2 ^ 32 = search rules in
    let column : c.in-Some-read_place.column < 2 ^ 32 = search rules in
    let text = rw c.in-Some-2.is at c.in_ok-cause.ensures.found in
    refused_read c.args.format c.args.bytes.now c.in-Some.rest.now c.in-Some.file c.in-Some.ensures c.in-Some-read_place.rest.now c.in-Some-read_place.line
    c.in-Some-read_place.column c.in-Some-read_place.ensures c.in-Some-read_field.cause.now c.in-Some-read_field.field-0-1.now c.in-Some-read_field.ensures.found
    c.in-Some-2.cause file line column text.0 text.1

pub returns-in-None : goal.returns-in-None
returns-in-None c =
    no_text_of_cause c.args.format c.args.bytes.now c.in-Some.rest.now c.in-Some.file c.in-Some.ensures c.in-Some-read_place.rest.now c.in-Some-read_place.line
    c.in-Some-read_place.column c.in-Some-read_place.ensures c.in-Some-read_field.cause.now c.in-Some-read_field.field-0-1.now c.in-Some-read_field.ensures.found
    (λ u. sym c.in-None.is ∙ c.in_ok-cause.ensures.only u)
