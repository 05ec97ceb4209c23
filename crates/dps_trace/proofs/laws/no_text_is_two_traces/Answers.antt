use Rattle.dps_trace.proofs.OneTrace.{one_trace}
use Rattle.dps_trace.proofs.laws.no_text_is_two_traces.Goals as goal

pub returns : goal.returns
returns c = one_trace c.args.signature.now c.spelled.ensures
