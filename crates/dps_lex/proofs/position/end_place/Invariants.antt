use Rattle.std.proofs.Common.{length, ◌-◌}
use Rattle.dps_lex.specs.Scanning.{IsPosition}
use Rattle.dps_lex.proofs.position.end_place.Given as goal

abbrev pub invariant-loop-here : goal.invariant-loop-here
invariant-loop-here l = IsPosition l.bytes l.here

abbrev pub decreases-loop-here : goal.decreases-loop-here
decreases-loop-here l = length l.bytes - l.here.at
