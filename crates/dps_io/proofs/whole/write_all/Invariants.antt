use Rattle.std.proofs.Common.{◌≡◌, length}
use Rattle.dps_io.proofs.WritingLemmas.{IsWritten}
use Rattle.dps_io.proofs.whole.write_all.Given as goal

abbrev pub invariant-rest : goal.invariant-rest
invariant-rest g l = record {
  written : IsWritten (g.W.Sink.written l.fn.sink) (g.W.Sink.written l.sink) l.bytes l.rest;
  answered : g.W.Sink.faults l.sink ≡ g.W.Sink.faults l.fn.sink;
}

abbrev pub decreases-rest : goal.decreases-rest
decreases-rest g l = length l.rest
