use Rattle.std.proofs.Common.{refl}
use Rattle.dps_trace.proofs.laws.each_trace_has_text.Goals as goal

pub returns : goal.returns
returns c = λ trace h. record { written = h; text = refl }
