use Rattle.std.proofs.Common.{◌≡◌, drop}
use Rattle.dps_syntax.specs.Parts.{parts_of}
use Rattle.dps_judge.specs.Unbuilt.{first_among}
use Rattle.dps_judge.proofs.unbuilt.+search.Given as goal

abbrev pub invariant-first_in-loop-part : goal.invariant-first_in-loop-part
invariant-first_in-loop-part l = first_among l.production (parts_of l.parts) ≡ first_among l.production (parts_of (drop l.part-index l.parts))
