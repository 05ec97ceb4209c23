-- The tests of single kept trees that show that their counterparts follow.
use Rattle.std.specs.Prelude.{◌≡◌, ◌⊎◌, ℕ, List, Some, slice_get}
use Rattle.dps_terms.specs.Tree.{Tree}
use Rattle.dps_terms.specs.Replace.{put_entries}
use Rattle.dps_static.specs.Ways.{Composes, IsNotComposed, IsFirst}

-- the counterpart stands where the kept tree has its first place
pub record Repeats (kept counterparts : List Tree) (tree counterpart : Tree) : Type 0 where
  pub place : ℕ
  pub first : IsFirst kept tree place
  pub there : slice_get counterparts place ≡ Some counterpart

-- a way composes the kept tree, and builds its counterpart from the counterparts
pub record ComposesBoth (kept counterparts : List Tree) (tree counterpart : Tree) : Type 0 where
  pub way : Tree
  pub composes : Composes kept tree way
  pub gives : put_entries counterparts way ≡ counterpart

-- the kept tree is composed in no way, or in one that builds its counterpart too
abbrev pub ComposesAlike : List Tree → List Tree → Tree → Tree → Type 0
ComposesAlike kept counterparts tree counterpart = IsNotComposed kept tree ⊎ ComposesBoth kept counterparts tree counterpart

-- of the kept tree at a place, counted from 0, and its counterpart
abbrev pub RepeatsAt : List Tree → List Tree → ℕ → Type 0
RepeatsAt kept counterparts i =
    (tree counterpart : Tree) → slice_get kept i ≡ Some tree → slice_get counterparts i ≡ Some counterpart
    → Repeats kept counterparts tree counterpart

abbrev pub ComposesAlikeAt : List Tree → List Tree → ℕ → Type 0
ComposesAlikeAt kept counterparts i =
    (tree counterpart : Tree) → slice_get kept i ≡ Some tree → slice_get counterparts i ≡ Some counterpart
    → ComposesAlike kept counterparts tree counterpart
