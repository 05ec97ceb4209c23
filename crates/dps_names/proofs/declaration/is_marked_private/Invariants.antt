use Rattle.std.proofs.Common.{drop}
use Rattle.dps_syntax.specs.Parts.{parts_of}
use Rattle.dps_names.proofs.Declaring.{IsUnmarked}
use Rattle.dps_names.proofs.declaration.is_marked_private.Given as goal

abbrev pub invariant-loop-part : goal.invariant-loop-part
invariant-loop-part l = IsUnmarked (parts_of l.parts) (parts_of (drop l.part-index l.parts))
