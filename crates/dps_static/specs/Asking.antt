-- Which ways to use the rules were found so far, and what became of them.
use Rattle.std.specs.Prelude.{◌≡◌, ◌⊎◌, ◌≤◌, ℕ, Bool, MatchBool, List, [], ◌∷◌, length, slice_get, Some, Contains, All}
use Rattle.dps_terms.specs.Tree.{Tree}
use Rattle.dps_terms.specs.Variables.{variables}
use Rattle.dps_theory.specs.Theory.{Rule, Theory}
use Rattle.dps_static.specs.Binding.{BindsParts}
use Rattle.dps_static.specs.Cuts.{CoversBefore}
use Rattle.dps_static.specs.Uses.{IsUseOf, HasUse, HasRuleUses}
use Rattle.dps_static.specs.Ending.{Grows}
use Rattle.dps_static.specs.declared.uses.RuleUse.{RuleUse}
use Rattle.dps_static.specs.declared.saturation.Asked.{Asked}

-- The substitutions that were found cover the left side of the rule as far as the rule was asked. Each of them waits, or
-- has its use.
pub record IsAsked (kept : List Tree) (uses : List RuleUse) (rule : Rule) (asked : Asked) : Type 0 where
  pub within : asked.trees ≤ length kept
  pub found : List (List (ℕ × Tree))
  pub covers : CoversBefore kept asked.trees rule.left found
  pub each : (s : List (ℕ × Tree)) → Contains found s → Contains asked.waiting.items s ⊎ HasUse kept uses rule s
  pub parts : All (BindsParts kept (variables rule.left)) asked.waiting.items

-- the same for the rule of a place
abbrev pub IsAskedAt : List Rule → ℕ → List Tree → List RuleUse → Asked → Type 0
IsAskedAt rules place kept uses asked = (rule : Rule) → slice_get rules place ≡ Some rule → IsAsked kept uses rule asked

-- and for all rules
pub record AreAsked (rules : List Rule) (kept : List Tree) (uses : List RuleUse) (asked : List Asked) : Type 0 where
  pub same_length : length asked ≡ length rules
  pub each : (place : ℕ) (one : Asked) → slice_get asked place ≡ Some one → IsAskedAt rules place kept uses one

-- the rule was asked of no kept tree, and the way that binds nothing waits
pub record IsUnasked (asked : Asked) : Type 0 where
  pub none : asked.trees ≡ 0
  pub waiting : asked.waiting.items ≡ [] ∷ []

-- uses were added, and all are uses of the theory's rules if those before were
pub record UsesGrow (theory : Theory) (kept : List Tree) (uses : List RuleUse) (more_kept : List Tree) (more_uses : List RuleUse) : Type 0 where
  pub stay : (one : RuleUse) → Contains uses one → Contains more_uses one
  pub each : ((one : RuleUse) → Contains uses one → IsUseOf theory kept one) → (one : RuleUse) → Contains more_uses one → IsUseOf theory more_kept one

-- nothing was kept, since the uses are all that the rule has
pub record IsUsedUp (rule : Rule) (recipes kept more_recipes more_kept : List Tree) (uses : List RuleUse) : Type 0 where
  pub same_recipes : more_recipes ≡ recipes
  pub same_kept : more_kept ≡ kept
  pub has : HasRuleUses kept uses rule

-- something was kept, or the rule of the place is used up
abbrev pub GrowsOrIsUsedUp : Theory → ℕ → Bool → List Tree → List Tree → List Tree → List Tree → List RuleUse → Type 0
GrowsOrIsUsedUp theory place more recipes kept more_recipes more_kept uses =
    MatchBool more (Grows theory 1 recipes kept more_recipes more_kept)
    ((rule : Rule) → slice_get theory.rules place ≡ Some rule → IsUsedUp rule recipes kept more_recipes more_kept uses)

-- the same for all rules
pub record AreUsedUp (theory : Theory) (recipes kept more_recipes more_kept : List Tree) (uses : List RuleUse) : Type 0 where
  pub same_recipes : more_recipes ≡ recipes
  pub same_kept : more_kept ≡ kept
  pub has : (place : ℕ) (rule : Rule) → slice_get theory.rules place ≡ Some rule → HasRuleUses kept uses rule

abbrev pub GrowsOrAreUsedUp : Theory → Bool → List Tree → List Tree → List Tree → List Tree → List RuleUse → Type 0
GrowsOrAreUsedUp theory more recipes kept more_recipes more_kept uses =
    MatchBool more (Grows theory 1 recipes kept more_recipes more_kept) (AreUsedUp theory recipes kept more_recipes more_kept uses)
