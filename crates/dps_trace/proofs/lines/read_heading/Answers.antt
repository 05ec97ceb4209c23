use Rattle.dps_trace.proofs.Fronts.{no_model_behind}
use Rattle.dps_trace.proofs.lines.read_heading.Goals as goal

pub returns-in-None-clause-none : goal.returns-in-None-clause-none
returns-in-None-clause-none c = no_model_behind c.args.bytes.now c.in-Some-behind.rest.now c.in-Some-behind.ensures.found c.in-None.ensures.none
