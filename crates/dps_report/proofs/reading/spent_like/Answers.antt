use Rattle.std.proofs.Common.{◌<◌, ◌^◌, subst, rules}
use Rattle.dps_report.proofs.LongRead.{OnlyPath, no_steps, spent_without_path, spent_read}
use Rattle.dps_report.proofs.reading.spent_like.Goals as goal

pub returns-in_default-read_number : goal.returns-in_default-read_number
returns-in_default-read_number c =
    no_steps c.args.format c.args.bytes.now c.in-Some.rest.now c.in-Some-read_field.node.now c.in-Some-read_field.rest.now c.in-Some.model c.in-Some.ensures.only
    c.in-Some-read_field.ensures.found c.in_default-read_number.ensures

pub returns-in-Some-2 : goal.returns-in-Some-2
returns-in-Some-2 c =
    let small : c.in-Some-read_number.steps < 2 ^ 64 = search rules in
    spent_read c.args.format c.args.bytes.now c.in-Some.rest.now c.in-Some-read_field.node.now c.in-Some-read_field.rest.now c.in-Some.model c.in-Some.ensures.only
    c.in-Some-read_field.ensures.found c.in-Some-read_number.steps c.in-Some-read_number.field-0-1.now c.in-Some-2.node small c.in-Some.ensures.names
    c.in-Some-read_number.ensures (subst (OnlyPath c.in-Some-read_field.node.now) c.in-Some-2.is c.in_ok-node.ensures.only)

pub returns-in-None : goal.returns-in-None
returns-in-None c =
    spent_without_path c.args.format c.args.bytes.now c.in-Some.rest.now c.in-Some-read_field.node.now c.in-Some-read_field.rest.now c.in-Some.model c.in-Some.ensures.only
    c.in-Some-read_field.ensures.found (subst (OnlyPath c.in-Some-read_field.node.now) c.in-None.is c.in_ok-node.ensures.only)
