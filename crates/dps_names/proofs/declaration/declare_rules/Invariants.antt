use Rattle.std.proofs.Common.{drop}
use Rattle.dps_syntax.specs.Parts.{parts_of}
use Rattle.dps_names.specs.Declarations.{rules}
use Rattle.dps_names.proofs.Declaring.{Says}
use Rattle.dps_names.proofs.declaration.declare_rules.Given as goal

abbrev pub invariant-loop-part : goal.invariant-loop-part
invariant-loop-part l = Says rules (parts_of l.parts) l.initial.draft (parts_of (drop l.part-index l.parts)) l.draft
