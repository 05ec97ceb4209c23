-- Overlaps of rules: a common instance of two left sides whose right sides differ there.
use Rattle.std.specs.Prelude.{◌≡◌, ◌≢◌, ◌<◌, ◌⊎◌, ◌-◌, ◌^◌, ℕ, suc, max, min, List, [], ◌∷◌, ◌++◌}
use Rattle.dps_terms.specs.Tree.{Tree, var, StandsIn}
use Rattle.dps_terms.specs.Replace.{substitute}
use Rattle.dps_terms.specs.Variables.{variables}
use Rattle.dps_terms.specs.Bindings.{image}
use Rattle.dps_unify.specs.Unifier.{IsMgu}
use Rattle.dps_unify.specs.Renaming.{raised}
use Rattle.dps_theory.specs.Theory.{Rule}

-- each variable of the rule has a number below 2^32
abbrev pub HasSmallVariables : Rule → Type 0
HasSmallVariables r = (n : ℕ) → StandsIn (var n) r.left ⊎ StandsIn (var n) r.right → n < 2 ^ 32

-- the least number above all of the list
abbrev pub least_above : List ℕ → ℕ
least_above [] = 0
least_above (n ∷ ns) = max (suc n) (least_above ns)

-- the least number above those of the rule's variables, all of which stand on its left side
abbrev pub room : Rule → ℕ
room r = least_above (variables r.left)

-- the left side of q, with variables above those of r
abbrev pub apart : Rule → Rule → Tree
apart r q = raised (room r) q.left

-- each variable with its place as its level
abbrev pub levels_from : ℕ → List ℕ → List (ℕ × ℕ)
levels_from i [] = []
levels_from i (n ∷ ns) = (n, min i (2 ^ 32 - 1)) ∷ levels_from (suc i) ns

-- the variables of r before those of q, by first occurrence
abbrev pub overlap_levels : Rule → Rule → List (ℕ × ℕ)
overlap_levels r q = levels_from 0 (variables r.left ++ variables (apart r q))

-- The most general unifier of the left sides, renamed apart, makes the right sides different.
pub record IsOverlap (r q : Rule) (u : List (ℕ × Tree)) : Type 0 where
  pub most_general : IsMgu (overlap_levels r q) ((r.left, apart r q) ∷ []) u
  pub same_left : substitute (image u) r.left ≡ substitute (image u) (apart r q)
  pub different_right : substitute (image u) r.right ≢ substitute (image u) (raised (room r) q.right)
