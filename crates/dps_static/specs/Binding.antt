-- What the substitutions bind that are found for the left side of a rule.
use Rattle.std.specs.Prelude.{◌≡◌, ◌⊎◌, ℕ, List, [], ◌∷◌, slice_get, Some, Contains, ⊤}
use Rattle.dps_terms.specs.Tree.{Tree, leaf, app, var, trees, StandsIn, IsSubterm}
use Rattle.dps_terms.specs.Bindings.{bound}
use Rattle.dps_terms.specs.Views.{arguments}
use Rattle.dps_unify.specs.Matching.{Matched, Refused}
use Rattle.dps_static.specs.Generic.{CoversAll}

-- a part of a kept tree
pub record IsPartOf (kept : List Tree) (t : Tree) : Type 0 where
  pub place : ℕ
  pub whole : Tree
  pub there : slice_get kept place ≡ Some whole
  pub within : IsSubterm t whole

-- variables among the free ones alone are bound, each to a part of a kept tree
pub record BindsParts (kept : List Tree) (free : List ℕ) (s : List (ℕ × Tree)) : Type 0 where
  pub parts : (n : ℕ) (t : Tree) → bound s n ≡ Some t → IsPartOf kept t
  pub frees : (n : ℕ) (t : Tree) → bound s n ≡ Some t → Contains free n

-- all variables of the pattern are free
abbrev pub HasFreeVariables : List ℕ → Tree → Type 0
HasFreeVariables free p = (n : ℕ) → StandsIn (var n) p → Contains free n

-- a symbol stands at the root
abbrev pub IsRooted : Tree → Type 0
IsRooted (leaf x) = ⊥
IsRooted (app f ts) = ⊤

-- a match of the pattern with the tree that extends s is listed
pub record IsMatchListed (free : List ℕ) (p : Tree) (found : List (List (ℕ × Tree))) (s : List (ℕ × Tree)) (t : Tree) : Type 0 where
  pub by : List (ℕ × Tree)
  pub listed : Contains found by
  pub matched : Matched free s p t by

-- the substitution is a match of the pattern with the tree, and extends one that is listed
pub record IsMatchOf (free : List ℕ) (p t : Tree) (begun : List (List (ℕ × Tree))) (q : List (ℕ × Tree)) : Type 0 where
  pub start : List (ℕ × Tree)
  pub listed : Contains begun start
  pub matched : Matched free start p t q

-- all matches of the pattern with the tree that extend the listed substitutions
pub record AreMatches (free : List ℕ) (p t : Tree) (begun found : List (List (ℕ × Tree))) : Type 0 where
  pub all : (s : List (ℕ × Tree)) → Contains begun s → Refused free s p t ⊎ IsMatchListed free p found s t
  pub only : (q : List (ℕ × Tree)) → Contains found q → IsMatchOf free p t begun q

-- one of the substitutions settles the arguments of a left side, wherever these are built
abbrev pub CoversLeft : List Tree → Tree → List (List (ℕ × Tree)) → Type 0
CoversLeft kept left found = CoversAll kept (trees (arguments left)) ([] ∷ []) found
