use Rattle.std.proofs.Common.{◌≡◌, map, take}
use Rattle.dps_signature.specs.Signature.{shapes}
use Rattle.dps_theory.specs.Held.{shape_of}
use Rattle.dps_theory.proofs.shapes.shapes_of.Given as goal

abbrev pub invariant-loop-number : goal.invariant-loop-number
invariant-loop-number l = map shape_of l.found.items ≡ take l.number (shapes l.signature)
