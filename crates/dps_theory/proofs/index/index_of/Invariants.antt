use Rattle.std.proofs.Common.{◌≡◌, length, take}
use Rattle.dps_theory.specs.Index.{IsIndexOf}
use Rattle.dps_theory.proofs.index.index_of.Given as goal

abbrev pub invariant-loop-place : goal.invariant-loop-place
invariant-loop-place l = record {
  indexed : IsIndexOf (take l.place l.rules) l.index;
  symbols : length l.index ≡ l.symbols;
}
