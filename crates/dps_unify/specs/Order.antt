-- The order of the variables: those with a level first, by level and then by number, and then all others by number.
use Rattle.std.specs.Prelude.{◌≡◌, ℕ, ◌<◌, ◌⊎◌, nat_eq, if◌then◌else◌, List, [], ◌∷◌, Option, Some, None, ⊤}

-- the level that is listed for a variable
abbrev pub level_of : List (ℕ × ℕ) → ℕ → Option ℕ
level_of [] n = None
level_of (p ∷ ps) n = if nat_eq p.0 n then Some p.1 else level_of ps n

abbrev pub ComesBefore : Option ℕ → Option ℕ → ℕ → ℕ → Type 0
ComesBefore (Some i) (Some j) x y = (i < j) ⊎ ((i ≡ j) × (x < y))
ComesBefore (Some i) None x y = ⊤
ComesBefore None (Some j) x y = ⊥
ComesBefore None None x y = x < y

-- the variable x comes before y
abbrev pub Precedes : List (ℕ × ℕ) → ℕ → ℕ → Type 0
Precedes levels x y = ComesBefore (level_of levels x) (level_of levels y) x y
