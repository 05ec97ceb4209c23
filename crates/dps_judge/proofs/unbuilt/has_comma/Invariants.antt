use Rattle.std.proofs.Common.{◌≡◌, drop}
use Rattle.dps_syntax.specs.Parts.{parts_of}
use Rattle.dps_judge.specs.Unbuilt.{has_comma}
use Rattle.dps_judge.proofs.unbuilt.has_comma.Given as goal

abbrev pub invariant-loop-part : goal.invariant-loop-part
invariant-loop-part l = has_comma (parts_of l.parts) ≡ has_comma (parts_of (drop l.part-index l.parts))
