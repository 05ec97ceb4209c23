-- What an expansion answers.
use Rattle.std.specs.Prelude.{◌≡◌, ℕ, ◌<◌, ◌^◌, List, [], ◌∷◌, ◌++◌, map, length, slice_get, Some}
use Rattle.dps_branch.specs.declared.branching.Look.{Look}
use Rattle.dps_branch.specs.declared.branching.Look.TheVariants.{Stop, Kids}
use Rattle.dps_branch.specs.LookTrees.{LookTree, LookTrees, stop, kids, list_of}

-- the nodes are the kids of the node at this path with this look tree: they have its kids' look trees, and kid i has the path with i added
pub record AreKids {N : Type 0} (place : N → List ℕ) (looks : N → LookTree) (path : List ℕ) (tree : LookTree) (nodes : List N) : Type 0 where
  pub trees : LookTrees
  pub tree_is : tree ≡ kids trees
  pub looks_are : map looks nodes ≡ list_of trees
  pub few : length nodes < 2 ^ 32
  pub places : (i : ℕ) (n : N) → slice_get nodes i ≡ Some n → place n ≡ path ++ i ∷ []

-- a look at the node at this path is the top of its look tree
abbrev pub IsTop : {N : Type 0} → (N → List ℕ) → (N → LookTree) → List ℕ → LookTree → Look N → Type 0
IsTop place looks path tree (Stop kind) = tree ≡ stop kind
IsTop place looks path tree (Kids nodes) = AreKids place looks path tree nodes.items
