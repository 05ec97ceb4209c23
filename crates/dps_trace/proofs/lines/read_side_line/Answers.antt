use Rattle.dps_trace.proofs.Fronts.{no_side}
use Rattle.dps_trace.proofs.lines.read_side_line.Goals as goal

pub returns-clause-none : goal.returns-clause-none
returns-clause-none c = no_side c.args.bytes.now c.in_default.ensures.none c.in_default-behind.ensures.none
