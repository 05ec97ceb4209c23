use Rattle.dps_replay.specs.Matching.{AreFirsts}
use Rattle.dps_replay.proofs.frames.Frames.of.Given as goal

abbrev pub invariant-loop-place : goal.invariant-loop-place
invariant-loop-place l = AreFirsts l.configs l.place l.firsts.items
