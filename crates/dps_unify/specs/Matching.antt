-- Matches of a pattern: substitutions that change given variables alone and make the pattern a given term.
use Rattle.std.specs.Prelude.{◌≡◌, ◌↔◌, ◌⊎◌, ℕ, List, Some, IsSome, Contains}
use Rattle.dps_terms.specs.Tree.{Tree, leaf, var, StandsIn}
use Rattle.dps_terms.specs.Replace.{substitute}
use Rattle.dps_terms.specs.Bindings.{bound, image}

-- s makes the pattern the term, and binds just the free variables of the pattern
pub record IsMatch (pattern : Tree) (free : List ℕ) (term : Tree) (s : List (ℕ × Tree)) : Type 0 where
  pub matches : substitute (image s) pattern ≡ term
  pub binds : (n : ℕ) → IsSome (bound s n) ↔ (Contains free n × StandsIn (var n) pattern)

-- the substitution leaves each variable that is not free
abbrev pub Keeps : List ℕ → (ℕ → Tree) → Type 0
Keeps free r = (n : ℕ) → ¬ Contains free n → r n ≡ leaf (var n)

-- no substitution of the free variables makes the pattern the term
abbrev pub HasNoMatch : Tree → List ℕ → Tree → Type 0
HasNoMatch pattern free term = (r : ℕ → Tree) → Keeps free r → substitute r pattern ≡ term → ⊥

-- the substitution agrees with what is bound
abbrev pub Agrees : (ℕ → Tree) → List (ℕ × Tree) → Type 0
Agrees r s = (n : ℕ) (v : Tree) → bound s n ≡ Some v → r n ≡ v

-- s grew to q, which makes the pattern p the term t
pub record Matched (free : List ℕ) (s : List (ℕ × Tree)) (p t : Tree) (q : List (ℕ × Tree)) : Type 0 where
  pub keeps : (n : ℕ) (v : Tree) → bound s n ≡ Some v → bound q n ≡ Some v
  pub within : (n : ℕ) (v : Tree) → bound q n ≡ Some v → (bound s n ≡ Some v) ⊎ (Contains free n × StandsIn (var n) p)
  pub covers : (n : ℕ) → Contains free n → StandsIn (var n) p → (v : Tree) × (bound q n ≡ Some v)
  pub matches : (r : ℕ → Tree) → Keeps free r → Agrees r q → substitute r p ≡ t
  pub forced : (r : ℕ → Tree) → Keeps free r → Agrees r s → substitute r p ≡ t → Agrees r q

-- s grew to q by free variables of the pattern p alone
pub record Grows (free : List ℕ) (s : List (ℕ × Tree)) (p : Tree) (q : List (ℕ × Tree)) : Type 0 where
  pub keeps : (n : ℕ) (v : Tree) → bound s n ≡ Some v → bound q n ≡ Some v
  pub within : (n : ℕ) (v : Tree) → bound q n ≡ Some v → (bound s n ≡ Some v) ⊎ (Contains free n × StandsIn (var n) p)

-- nothing that agrees with s matches
abbrev pub Refused : List ℕ → List (ℕ × Tree) → Tree → Tree → Type 0
Refused free s p t = (r : ℕ → Tree) → Keeps free r → Agrees r s → substitute r p ≡ t → ⊥
