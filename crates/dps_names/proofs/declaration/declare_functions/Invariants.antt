use Rattle.dps_syntax.specs.Tree.{count}
use Rattle.dps_syntax.specs.Parts.{parts_of}
use Rattle.dps_names.specs.Declarations.{functions}
use Rattle.dps_names.proofs.Declaring.{Says}
use Rattle.dps_names.proofs.declaration.declare_functions.Given as goal

abbrev pub invariant-loop-name : goal.invariant-loop-name
invariant-loop-name l = Says functions (parts_of l.parts) l.initial.draft (parts_of l.rest) l.draft

abbrev pub decreases-loop-name : goal.decreases-loop-name
decreases-loop-name l = count (parts_of l.rest)
