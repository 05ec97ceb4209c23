use Rattle.std.proofs.Common.{drop}
use Rattle.dps_names.specs.Declarations.{declarations}
use Rattle.dps_names.proofs.Declaring.{Says}
use Rattle.dps_names.proofs.declaration.declare_all.Given as goal

abbrev pub invariant-loop-declaration : goal.invariant-loop-declaration
invariant-loop-declaration l = Says declarations l.declarations l.initial.draft (drop l.declaration-index l.declarations) l.draft
