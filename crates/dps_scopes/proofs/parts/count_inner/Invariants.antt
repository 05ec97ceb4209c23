use Rattle.std.proofs.Common.{drop}
use Rattle.dps_syntax.specs.Parts.{parts_of}
use Rattle.dps_scopes.proofs.Rows.{IsCounting}
use Rattle.dps_scopes.proofs.parts.count_inner.Given as goal

abbrev pub invariant-loop-part : goal.invariant-loop-part
invariant-loop-part l = IsCounting (parts_of l.parts) (parts_of (drop l.part-index l.parts)) l.part-index l.count
