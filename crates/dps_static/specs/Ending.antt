-- Why keeping ends: each tree that is kept is one of finitely many, and none is kept twice.
use Rattle.std.specs.Prelude.{◌≡◌, ◌≤◌, ◌+◌, ◌||◌, ℕ, Bool, true, false, List, [], ◌∷◌, ◌++◌}
use Rattle.dps_terms.specs.Tree.{Tree, Trees, leaf, app, none, more}
use Rattle.dps_terms.specs.Replace.{substitute, put_entries}
use Rattle.dps_terms.specs.Same.{same}
use Rattle.dps_terms.specs.Variables.{variables}
use Rattle.dps_theory.specs.Theory.{Rule, Theory}
use Rattle.dps_static.specs.Ways.{Composes}
use Rattle.dps_static.specs.Generic.{IsBuilt, generic, filled}
use Rattle.dps_static.specs.Binding.{BindsParts}
use Rattle.dps_static.specs.Saturation.{AreKnown, StartsWith, own_name}

-- all subterms, each as often as it stands
abbrev mutual
  pub subterms : Tree → List Tree
  subterms (leaf x) = leaf x ∷ []
  subterms (app f ts) = app f ts ∷ all_subterms ts

  pub all_subterms : Trees → List Tree
  all_subterms none = []
  all_subterms (more t ts) = subterms t ++ all_subterms ts

-- the parts of all messages and of all right sides
abbrev pub parts_of_frame : List Tree → List Tree
parts_of_frame [] = []
parts_of_frame (t ∷ ts) = subterms t ++ parts_of_frame ts

abbrev pub parts_of_rules : List Rule → List Tree
parts_of_rules [] = []
parts_of_rules (r ∷ rs) = subterms r.right ++ parts_of_rules rs

abbrev pub universe : Theory → List Tree → List Tree
universe theory frame = parts_of_frame frame ++ parts_of_rules theory.rules

abbrev pub is_in : List Tree → Tree → Bool
is_in [] t = false
is_in (u ∷ us) t = same u t || is_in us t

abbrev pub miss : Bool → ℕ
miss true = 0
miss false = 1

-- how many trees of the first list are not in the second
abbrev pub absent : List Tree → List Tree → ℕ
absent [] kept = 0
absent (u ∷ us) kept = miss (is_in kept u) + absent us kept

-- A use of a rule that gives a tree which is not built from the kept ones, and its recipe. Where a rigid name stands in the
-- way, an attacker's name stands in the recipe.
pub record GivesNew (rule : Rule) (recipes kept : List Tree) (recipe value : Tree) : Type 0 where
  pub by : List (ℕ × Tree)
  pub parts : BindsParts kept (variables rule.left) by
  pub way : Tree
  pub composes : Composes kept (substitute (generic by) rule.left) way
  pub recipe_is : recipe ≡ put_entries recipes (filled own_name way)
  pub value_is : value ≡ substitute (generic by) rule.right
  pub is_new : ¬ IsBuilt kept value

-- What was known stays known, and n trees at least that may be kept are kept since.
pub record Grows (theory : Theory) (n : ℕ) (recipes kept more_recipes more_kept : List Tree) : Type 0 where
  pub keeps : StartsWith more_kept kept
  pub known : (frame : List Tree) → AreKnown theory frame recipes kept → AreKnown theory frame more_recipes more_kept
  pub fewer : (frame : List Tree) → AreKnown theory frame recipes kept → absent (universe theory frame) more_kept + n ≤ absent (universe theory frame) kept
