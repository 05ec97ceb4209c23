use Rattle.std.proofs.Common.{◌≡◌, length, map, take}
use Rattle.dps_theory.specs.Held.{shape_of}
use Rattle.dps_theory.specs.Index.{IsIndexOf}
use Rattle.dps_theory.specs.Judging.{AreJudged}
use Rattle.dps_theory.proofs.check.judge.Given as goal

abbrev pub invariant-loop-place : goal.invariant-loop-place
invariant-loop-place l = record {
  judged : AreJudged (map shape_of l.known) l.rules l.place;
  indexed : IsIndexOf (take l.place l.rules) l.index;
  symbols : length l.index ≡ length l.known;
}
