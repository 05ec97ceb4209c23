use Rattle.std.proofs.Common.{length, map}
use Rattle.dps_process.specs.Labels.{label_of}
use Rattle.dps_trace.proofs.LinesRead.{AreRead}
use Rattle.dps_trace.proofs.reading.read_labels.Given as goal

abbrev pub invariant-lines : goal.invariant-lines
invariant-lines l = AreRead l.fn.signature l.fn.first l.fn.bytes (map label_of l.labels.items) l.line l.outputs l.rest

abbrev pub decreases-lines : goal.decreases-lines
decreases-lines l = length l.rest
