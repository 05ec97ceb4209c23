-- Bindings in the order in which they were found. A variable is bound to a term as it stands in a pair, which may hold
-- variables that are bound themselves; to follow all of them gives the substitution that the bindings stand for.
use Rattle.std.specs.Prelude.{◌≡◌, ℕ, suc, ◌<◌, ◌⊎◌, nat_eq, if◌then◌else◌, length, List, [], ◌∷◌, Some, None}
use Rattle.dps_terms.specs.Tree.{var, Tree, leaf, StandsIn}
use Rattle.dps_terms.specs.Replace.{substitute}
use Rattle.dps_terms.specs.Bindings.{bound, image}
use Rattle.dps_unify.specs.Order.{Precedes}

-- the substitution makes each variable equal to what it is bound to
abbrev pub Fulfils : (ℕ → Tree) → List (ℕ × Tree) → Type 0
Fulfils r bindings = (n : ℕ) (t : Tree) → bound bindings n ≡ Some t → r n ≡ substitute r t

-- one more binding, of x to t: first what stood before, and then x becomes what t has become
abbrev pub and_then : (ℕ → Tree) → ℕ × Tree → ℕ → Tree
and_then z p n = substitute (image ((p.0, substitute z p.1) ∷ [])) (z n)

abbrev pub solved_from : (ℕ → Tree) → List (ℕ × Tree) → ℕ → Tree
solved_from z [] = z
solved_from z (p ∷ ps) = solved_from (and_then z p) ps

-- what each variable becomes in the end
abbrev pub solved : List (ℕ × Tree) → ℕ → Tree
solved bindings = solved_from (λ n. leaf (var n)) bindings

abbrev pub links_of : List (ℕ × Tree) → ℕ → ℕ
links_of [] n = 0
links_of (p ∷ ps) n = if nat_eq n p.0 then suc (length ps) else links_of ps n

-- how many bindings are left from that of a variable on, and none where the tree is no bound variable
abbrev pub links : List (ℕ × Tree) → Tree → ℕ
links bindings (leaf (var n)) = links_of bindings n
links bindings t = 0

-- the variable is bound, or stands in a term that another is bound to
abbrev pub IsHeld : List (ℕ × Tree) → ℕ → Type 0
IsHeld bindings m = (n : ℕ) × (t : Tree) × (bound bindings n ≡ Some t) × ((m ≡ n) ⊎ StandsIn (var m) t)

-- the tree is no bound variable
abbrev pub IsResolved : List (ℕ × Tree) → Tree → Type 0
IsResolved bindings t = (n : ℕ) → t ≡ leaf (var n) → bound bindings n ≡ None

-- bindings without a cycle, of which `solved` is the most general solution
pub record IsChain (bindings : List (ℕ × Tree)) : Type 0 where
  pub fulfilled : Fulfils (solved bindings) bindings
  pub general : (r : ℕ → Tree) → Fulfils r bindings → (n : ℕ) → substitute r (solved bindings n) ≡ r n
  pub stays : (n : ℕ) → bound bindings n ≡ None → solved bindings n ≡ leaf (var n)
  pub is_open : (n m : ℕ) → StandsIn (var m) (solved bindings n) → bound bindings m ≡ None
  pub within : (n m : ℕ) → StandsIn (var m) (solved bindings n) → (m ≡ n) ⊎ IsHeld bindings m
  pub goes_on : (n : ℕ) (t : Tree) → bound bindings n ≡ Some t → links bindings t < links bindings (leaf (var n))

-- a variable that becomes another one comes after it
abbrev pub IsLeast : List (ℕ × ℕ) → List (ℕ × Tree) → Type 0
IsLeast levels bindings = (n y : ℕ) → solved bindings n ≡ leaf (var y) → (n ≡ y) ⊎ Precedes levels y n

-- u is what the tree t is bound to, as far as it is a bound variable
pub record Resolves (bindings : List (ℕ × Tree)) (t u : Tree) : Type 0 where
  pub resolved : IsResolved bindings u
  pub same : (r : ℕ → Tree) → Fulfils r bindings → substitute r u ≡ substitute r t
  pub within : (n : ℕ) → StandsIn (var n) u → StandsIn (var n) t ⊎ IsHeld bindings n
