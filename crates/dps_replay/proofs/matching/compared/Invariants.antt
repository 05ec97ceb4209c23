use Rattle.dps_replay.specs.Matching.{TellApart}
use Rattle.dps_replay.proofs.matching.compared.Given as goal

abbrev pub invariant-loop-place : goal.invariant-loop-place
invariant-loop-place l = TellApart l.theory l.wanted l.others l.place l.tests.items
