-- A pattern and a term compared node by node.
use Rattle.std.specs.Prelude.{◌≡◌, ℕ, List, []}
use Rattle.dps_terms.specs.Tree.{Tree, node_count}
use Rattle.dps_terms.specs.Views.{view_of, arguments, HaveSameRoot}
use Rattle.dps_terms.specs.declared.TermView.TheVariants.{Var}
use Rattle.dps_unify.specs.Matching.{Matched}

-- So many nodes of the term were compared with the pattern's root: all of them with a variable, and else the root.
pub data IsCompared (free : List ℕ) (s : List (ℕ × Tree)) (p t : Tree) (q : List (ℕ × Tree)) (count : ℕ) : Type 0 where
  variable : arguments p ≡ [] → Matched free s p t q → count ≡ node_count t → IsCompared free s p t q count
  roots : ((m : ℕ) → view_of p ≡ Var m → ⊥) → HaveSameRoot p t → q ≡ s → count ≡ 1 → IsCompared free s p t q count
