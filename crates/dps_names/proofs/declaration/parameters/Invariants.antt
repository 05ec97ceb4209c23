use Rattle.std.proofs.Common.{drop}
use Rattle.dps_syntax.specs.Parts.{parts_of}
use Rattle.dps_names.proofs.Declaring.{Lists}
use Rattle.dps_names.proofs.declaration.parameters.Given as goal

abbrev pub invariant-loop-part : goal.invariant-loop-part
invariant-loop-part l = Lists (parts_of l.parts) (parts_of (drop l.part-index l.parts)) l.texts
