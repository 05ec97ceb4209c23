use Rattle.std.proofs.Common.{◌≡◌, drop}
use Rattle.dps_judge.specs.Unbuilt.{first_unbuilt}
use Rattle.dps_judge.proofs.unbuilt.first_unbuilt.Given as goal

abbrev pub invariant-loop-decl : goal.invariant-loop-decl
invariant-loop-decl l = first_unbuilt l.file.declarations.items ≡ first_unbuilt (drop l.decl-index l.file.declarations.items)
