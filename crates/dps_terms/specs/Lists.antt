-- Terms one after another in one list of cells.
use Rattle.std.specs.Prelude.{◌≡◌, ℕ, ◌+◌, List, [], ◌∷◌, true}
use Rattle.dps_terms.specs.declared.cells.Cell.{Cell}
use Rattle.dps_terms.specs.Tree.{Tree, Trees, none, more, list_of, node_count}
use Rattle.dps_terms.specs.Cells.{forest, AreTerms, are_narrow}

abbrev pub trees_in : List Cell → List Tree
trees_in cells = list_of (forest cells)

-- of each tree, how many cells stand before its own, where n stand before them all
abbrev pub starts_from : ℕ → Trees → List ℕ
starts_from n none = []
starts_from n (more t ts) = n ∷ starts_from (n + node_count t) ts

-- they are the cells of these trees, in which no symbol has more than eight arguments, and the places at which these start
pub record IsTermList (cells : List Cell) (starts : List ℕ) : Type 0 where
  pub terms : AreTerms cells
  pub narrow : are_narrow (forest cells) ≡ true
  pub places : starts ≡ starts_from 0 (forest cells)
