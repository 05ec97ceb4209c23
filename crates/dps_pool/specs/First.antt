-- What an exploration answers.
use Rattle.dps_branch.specs.LookTrees.{LookTree, IsFirstStop, NeverStops}
use Rattle.dps_pool.specs.declared.found.Found.{Found}
use Rattle.dps_pool.specs.declared.found.Found.TheVariants as found

-- the first stop of the tree, or that there is none
abbrev pub IsFirst : LookTree → Found → Type 0
IsFirst tree found.None = NeverStops tree
IsFirst tree (found.Stop path kind) = IsFirstStop tree path kind
