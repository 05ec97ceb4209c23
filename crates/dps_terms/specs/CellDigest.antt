-- The digest of cells in turn.
use Rattle.std.specs.Prelude.{ℕ, List, [], ◌∷◌}
use Rattle.dps_terms.specs.declared.cells.Cell.{Cell}
use Rattle.dps_terms.specs.declared.cells.Cell.TheVariants.{App, Declared, At, Private, Var, Ax, Entry, Rigid}
use Rattle.dps_terms.specs.Digest.{mixed}

abbrev pub cell_digest : ℕ → Cell → ℕ
cell_digest d (App f n w) = mixed (mixed d 8) f.number
cell_digest d (Declared n) = mixed (mixed d 1) n
cell_digest d (At n) = mixed (mixed d 2) n
cell_digest d (Private n) = mixed (mixed d 3) n
cell_digest d (Var n) = mixed (mixed d 4) n
cell_digest d (Ax n) = mixed (mixed d 5) n
cell_digest d (Entry n) = mixed (mixed d 6) n
cell_digest d (Rigid n) = mixed (mixed d 7) n

abbrev pub cells_digest : ℕ → List Cell → ℕ
cells_digest d [] = d
cells_digest d (c ∷ cs) = cells_digest (cell_digest d c) cs
