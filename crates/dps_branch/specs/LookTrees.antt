-- Look trees: what stands at the nodes of a tree, as plain data.
use Rattle.std.specs.Prelude.{◌≡◌, ℕ, ◌+◌, max, List, [], ◌∷◌, Option, Some, None, slice_get, true, ◌⊎◌}
use Rattle.dps_branch.specs.declared.kind.StopKind.{StopKind}
use Rattle.dps_path.specs.Order.{before}

mutual
  -- a stop, or kids
  pub data LookTree : Type 0 where
    stop : StopKind → LookTree
    kids : LookTrees → LookTree

  pub data LookTrees : Type 0 where
    none_left : LookTrees
    one_more : LookTree → LookTrees → LookTrees

abbrev pub list_of : LookTrees → List LookTree
list_of none_left = []
list_of (one_more tree trees) = tree ∷ list_of trees

abbrev mutual
  -- 0 without kids, else one more than the greatest height of a kid
  pub height : LookTree → ℕ
  height (stop kind) = 0
  height (kids trees) = height_of_kids trees

  pub height_of_kids : LookTrees → ℕ
  height_of_kids none_left = 0
  height_of_kids (one_more tree trees) = max (height tree + 1) (height_of_kids trees)

-- the kid with this number
abbrev pub kid : Option LookTree → ℕ → Option LookTree
kid None i = None
kid (Some (stop kind)) i = None
kid (Some (kids trees)) i = slice_get (list_of trees) i

-- the part of a tree at a path
abbrev pub part : Option LookTree → List ℕ → Option LookTree
part tree [] = tree
part tree (i ∷ path) = part (kid tree i) path

-- the tree stops at this path, for this reason
abbrev pub StopsAt : LookTree → List ℕ → StopKind → Type 0
StopsAt tree path kind = part (Some tree) path ≡ Some (stop kind)

-- this is the first stop of the tree in the order of paths
pub record IsFirstStop (tree : LookTree) (path : List ℕ) (kind : StopKind) : Type 0 where
  pub stops : StopsAt tree path kind
  pub first : (other : List ℕ) (why : StopKind) → StopsAt tree other why → (path ≡ other) ⊎ (before path other ≡ true)

-- the tree stops nowhere
abbrev pub NeverStops : LookTree → Type 0
NeverStops tree = (path : List ℕ) (kind : StopKind) → StopsAt tree path kind → ⊥
