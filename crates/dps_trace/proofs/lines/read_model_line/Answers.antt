use Rattle.dps_trace.proofs.Fronts.{no_model}
use Rattle.dps_trace.proofs.lines.read_model_line.Goals as goal

pub returns-clause-none : goal.returns-clause-none
returns-clause-none c = no_model c.args.bytes.now c.in_default.ensures.none c.in_default-behind.ensures.none c.in_default-behind-2.ensures.none
