use Rattle.std.proofs.Common.{◌≡◌, drop}
use Rattle.dps_terms.specs.CellDigest.{cells_digest}
use Rattle.dps_terms.proofs.digests.cells_digest.Given as goal

abbrev pub invariant-loop-cell : goal.invariant-loop-cell
invariant-loop-cell l = cells_digest l.digest (drop l.cell-index l.cells) ≡ cells_digest 0 l.cells
