use Rattle.dps_process.proofs.Prefixes.{prefixes_are_traces}
use Rattle.dps_process.proofs.laws.prefixes_are_traces.Goals as goal

pub returns : goal.returns
returns c = prefixes_are_traces
