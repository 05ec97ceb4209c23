use Rattle.std.proofs.Common.{drop}
use Rattle.dps_syntax.specs.Parts.{parts_of}
use Rattle.dps_names.specs.Declarations.{declare_names}
use Rattle.dps_names.proofs.Declaring.{Says}
use Rattle.dps_names.proofs.declaration.declare_each.Given as goal

abbrev pub invariant-loop-part : goal.invariant-loop-part
invariant-loop-part l = Says (declare_names l.private) (parts_of l.parts) l.initial.draft (parts_of (drop l.part-index l.parts)) l.draft
