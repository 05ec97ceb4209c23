-- What is put for variables whose trees have new variables.
use Rattle.std.specs.Prelude.{◌≡◌, ℕ, min, not, false, if◌then◌else◌, List, ◌++◌, Option, Some, None, map, filter, filter_map, option_map}
use Rattle.dps_terms.specs.Tree.{var, Tree, leaf}
use Rattle.dps_terms.specs.Bindings.{bound}
use Rattle.dps_terms.specs.Replace.{substitute}
use Rattle.dps_terms.specs.Same.{same}
use Rattle.dps_terms.specs.Variables.{occurrences}
use Rattle.dps_renewal.specs.declared.renewal.Renewal.{Renewal}
use Rattle.dps_renewal.specs.Numbering.{is_among, counted_as, as_variable, variables_in, least}

-- the tree that is put for a variable, where it is another one
abbrev pub change : (ℕ → Tree) → ℕ → Option Tree
change z x = if same (z x) (leaf (var x)) then None else Some (z x)

-- z is put for the variables of the list, and for no other
abbrev pub PutsFor : (ℕ → Tree) → List ℕ → List (ℕ × Tree) → Type 0
PutsFor z xs pairs = (x : ℕ) → bound pairs x ≡ (if is_among x xs then change z x else None)

abbrev pub PutsNothing : List ℕ → List (ℕ × Tree) → Type 0
PutsNothing xs pairs = (x : ℕ) → is_among x xs ≡ false → bound pairs x ≡ None

-- the lesser of two numbers, where there are two
abbrev pub least_with : Option ℕ → ℕ → ℕ
least_with None n = n
least_with (Some m) n = min m n

-- the bindings with the new numbers, from the first on
abbrev pub renewed : ℕ → List ℕ → (ℕ → Tree) → ℕ → Tree
renewed first fresh bindings x = substitute (counted_as as_variable first fresh) (bindings x)

-- the variables of the list for which another tree is put, each with it
abbrev pub changes : List (ℕ × Tree) → List ℕ → List (Tree × Tree)
changes pairs xs = filter_map (λ x. option_map (λ t. (leaf (var x), t)) (bound pairs x)) xs

-- the numbers of variables that come with their levels
abbrev pub numbers_in : List (ℕ × ℕ) → List ℕ
numbers_in ps = map (λ (p : ℕ × ℕ). p.0) ps

-- the variables of their trees that are none of them, by first occurrence
abbrev pub fresh_in : List (ℕ × ℕ) → (ℕ → Tree) → List ℕ
fresh_in ps bindings = variables_in (λ y. not (is_among y (numbers_in ps))) (map (λ (p : ℕ × ℕ). bindings p.0) ps)

-- a new variable has the least level of those in whose trees it stands
abbrev pub level_in : List (ℕ × ℕ) → (ℕ → Tree) → ℕ → ℕ
level_in ps bindings y = least (map (λ (p : ℕ × ℕ). p.1) (filter (λ (p : ℕ × ℕ). is_among y (occurrences (bindings p.0))) ps))

-- What becomes of variables: their numbers, the new variables with their levels, and what is put for both.
pub record IsRenewed (variables : List (ℕ × ℕ)) (first : ℕ) (bindings : ℕ → Tree) (renewal : Renewal) : Type 0 where
  pub own : renewal.own.items ≡ numbers_in variables
  pub fresh : renewal.fresh.keys ≡ fresh_in variables bindings
  pub levels : renewal.levels.items ≡ map (level_in variables bindings) (fresh_in variables bindings)
  pub put : PutsFor (renewed first (fresh_in variables bindings) bindings) (numbers_in variables ++ fresh_in variables bindings) renewal.by
