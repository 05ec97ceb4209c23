use Rattle.std.proofs.Common.{drop}
use Rattle.dps_syntax.specs.Tree.{count}
use Rattle.dps_syntax.specs.Parts.{parts_of}
use Rattle.dps_names.proofs.Declaring.{IsBare}
use Rattle.dps_names.proofs.declaration.+first_leaf.Given as goal

abbrev pub decreases-first_leaf : goal.decreases-first_leaf
decreases-first_leaf l = count (parts_of l.parts.now)

abbrev pub invariant-loop-part : goal.invariant-loop-part
invariant-loop-part l = IsBare (parts_of l.parts) (parts_of (drop l.part-index l.parts))
