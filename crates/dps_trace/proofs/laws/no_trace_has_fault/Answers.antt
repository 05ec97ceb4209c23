use Rattle.dps_trace.proofs.OneTrace.{faulty_is_none}
use Rattle.dps_trace.proofs.laws.no_trace_has_fault.Goals as goal

pub returns : goal.returns
returns c = faulty_is_none c.args.signature.now c.spelled.ensures
