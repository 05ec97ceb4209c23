use Rattle.std.proofs.Common.{ℕ, ◌<◌, get_or}
use Rattle.dps_semantics.specs.Parts.{IsPartAt}
use Rattle.dps_semantics.proofs.parts.part_among.Given as goal

abbrev pub invariant-loop-index : goal.invariant-loop-index
invariant-loop-index l = (k : ℕ) → k < l.index → ¬ IsPartAt l.parts (get_or l.numbers k 0) l.part
