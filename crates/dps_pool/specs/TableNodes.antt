-- Kids of a node of a table.
use Rattle.std.specs.Prelude.{◌≡◌, ℕ, ◌+◌, ◌*◌, List, [], ◌∷◌, ◌++◌}
use Rattle.dps_pool.specs.declared.table.TableNode.{TableNode}

-- the kid of this number, at this entry
pub record IsKid (node : TableNode) (number index : ℕ) (kid : TableNode) : Type 0 where
  pub path : kid.path ≡ node.path ++ number ∷ []
  pub levels : kid.levels + 1 ≡ node.levels
  pub table : kid.table.now ≡ node.table.now
  pub entry : kid.index ≡ index

-- both kids, in order
abbrev pub AreBoth : TableNode → List TableNode → Type 0
AreBoth node kids = (first second : TableNode) × (kids ≡ first ∷ second ∷ []) × IsKid node 0 (2 * node.index + 1) first × IsKid node 1 (2 * node.index + 2) second
