-- The tree of a table of looks: kids 2 * i + 1 and 2 * i + 2 of the entry i, down to so many levels.
use Rattle.std.specs.Prelude.{ℕ, zero, suc, ◌+◌, ◌*◌, List, Option, Some, None, slice_get}
use Rattle.dps_branch.specs.declared.kind.StopKind.{StopKind}
use Rattle.dps_branch.specs.LookTrees.{LookTree, LookTrees, stop, kids, none_left, one_more}

-- an entry that stops, one that goes on, or none
abbrev pub entry_tree : Option (Option StopKind) → LookTrees → LookTree
entry_tree None trees = kids none_left
entry_tree (Some None) trees = kids trees
entry_tree (Some (Some kind)) trees = stop kind

abbrev pub table_tree : ℕ → List (Option StopKind) → ℕ → LookTree
table_tree zero table i = entry_tree (slice_get table i) none_left
table_tree (suc levels) table i =
    entry_tree (slice_get table i) (one_more (table_tree levels table (2 * i + 1)) (one_more (table_tree levels table (2 * i + 2)) none_left))
