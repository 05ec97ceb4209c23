-- The attacker's knowledge.
use Rattle.std.specs.Prelude.{◌≡◌, ℕ, ◌∷◌, [], ◌++◌, ◌-◌, List, Option, Some, None, map, filter_map, option_map, IsSome, Contains, slice_get, slice_set, zero, suc}
use Rattle.dps_terms.specs.Tree.{Tree, IsSubterm}
use Rattle.dps_terms.specs.Replace.{substitute, put_entries}
use Rattle.dps_know.specs.declared.know.Entry.{Entry}

-- the entries, counted from 1, and the tree of each handle that was examined, in order
pub record Knowledge : Type 0 where
  pub entries : List Entry
  pub handles : List Tree

-- the entry with this number, counted from 1
abbrev pub entry_at : Knowledge → ℕ → Option Entry
entry_at know zero = None
entry_at know (suc k) = slice_get know.entries k

-- there is an entry with this number
abbrev pub IsThere : Knowledge → ℕ → Type 0
IsThere know i = IsSome (entry_at know i)

-- a composition is recorded for the entry
abbrev pub IsRecorded : Knowledge → ℕ → Type 0
IsRecorded know i = (e : Entry) × (entry_at know i ≡ Some e) × IsSome e.composition

-- the knowledge with this entry in the place of the one with this number
abbrev pub with_entry_at : Knowledge → ℕ → Entry → Knowledge
with_entry_at know i e = record { entries = slice_set know.entries (i - 1) e; handles = know.handles }

-- the recorded compositions
abbrev pub compositions : Knowledge → List Tree
compositions know = filter_map (λ e. e.composition) know.entries

-- the knowledge with trees put for variables
abbrev pub entry_under : (ℕ → Tree) → Entry → Entry
entry_under z e =
    record { recipe = substitute z e.recipe; level = e.level; composition = option_map (substitute z) e.composition }

abbrev pub know_under : (ℕ → Tree) → Knowledge → Knowledge
know_under z know = record { entries = map (entry_under z) know.entries; handles = map (substitute z) know.handles }

-- a tree is normal where no subtree is a recorded composition
abbrev pub IsNormal : List Tree → Tree → Type 0
IsNormal recorded t = (r : Tree) → Contains recorded r → ¬ IsSubterm r t

-- a composition is recorded for the entry that stands in the tree
abbrev pub HasCompositionIn : Entry → Tree → Type 0
HasCompositionIn e t = (r : Tree) × (e.composition ≡ Some r) × IsSubterm r t

-- The recipes of the entries with no entry left in them: an entry's recipe holds entries of smaller number alone, and
-- these are replaced by what stands for them already.
abbrev pub resolved_after : List Tree → List Entry → List Tree
resolved_after done [] = done
resolved_after done (e ∷ es) = resolved_after (done ++ put_entries done e.recipe ∷ []) es

-- the recipe of a tree: the entries' recipes put in their places, again and again until no entry is left
abbrev pub recipe_of : Knowledge → Tree → Tree
recipe_of know t = put_entries (resolved_after [] know.entries) t
