use Rattle.dps_report.proofs.ReportRead.{result_unnamed, result_read}
use Rattle.dps_report.proofs.reading.read_result.Goals as goal

pub returns-in-Some-result_named : goal.returns-in-Some-result_named
returns-in-Some-result_named c =
    result_read c.args.bytes.now c.in-Some.text.now c.in-Some.rest.now c.in-Some-result_named.name c.in-Some.ensures.found c.in-Some-result_named.ensures

pub returns-in-None : goal.returns-in-None
returns-in-None c = result_unnamed c.args.bytes.now c.in-Some.text.now c.in-Some.rest.now c.in-Some.ensures.found c.in-None.ensures
