use Rattle.dps_replay.specs.Matching.{HavePartners}
use Rattle.dps_replay.proofs.matching.match_ends.Given as goal

abbrev pub invariant-loop-place : goal.invariant-loop-place
invariant-loop-place l = HavePartners l.theory l.ends l.others l.place l.partners.items
