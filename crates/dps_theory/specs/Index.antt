-- Where the rules of a destructor stand.
use Rattle.std.specs.Prelude.{◌≡◌, ◌<◌, ℕ, suc, Bool, false, nat_eq, if◌then◌else◌, List, [], ◌∷◌, slice_get, unwrap_or}
use Rattle.dps_terms.specs.Tree.{Tree, leaf, app}
use Rattle.dps_theory.specs.Theory.{Rule}

-- the symbol with this number stands at the root
abbrev pub has_root : ℕ → Tree → Bool
has_root g (leaf x) = false
has_root g (app f ts) = nat_eq f.number g

-- the places of the rules with this left root, in order, counted from i
abbrev pub places_from : ℕ → List Rule → ℕ → List ℕ
places_from i [] g = []
places_from i (r ∷ rules) g = if has_root g r.left then i ∷ places_from (suc i) rules g else places_from (suc i) rules g

abbrev pub places : List Rule → ℕ → List ℕ
places rules g = places_from 0 rules g

-- the list of a symbol, among the lists of all symbols
abbrev pub listed : List (List ℕ) → ℕ → List ℕ
listed lists g = unwrap_or (slice_get lists g) []

-- each symbol's list is that of its rules' places
abbrev pub IsIndexOf : List Rule → List (List ℕ) → Type 0
IsIndexOf rules lists = (g : ℕ) → listed lists g ≡ places rules g

-- a symbol with a number below this one stands at the root
abbrev pub HasRootBelow : ℕ → Tree → Type 0
HasRootBelow n (leaf x) = ⊥
HasRootBelow n (app f ts) = f.number < n
