use Rattle.std.proofs.Common.{◌≡◌, take}
use Rattle.dps_semantics.specs.Parts.{parts_of}
use Rattle.dps_semantics.proofs.parts.Parts.copies.Given as goal

abbrev pub invariant-loop-index : goal.invariant-loop-index
invariant-loop-index l = l.copies.items ≡ parts_of l.self (take l.index l.numbers)
