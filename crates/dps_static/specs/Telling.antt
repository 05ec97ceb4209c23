-- What the counterparts make of a use of a rule, and the tests that come of it.
use Rattle.std.specs.Prelude.{◌≡◌, ◌⊎◌, ℕ, List, Contains}
use Rattle.dps_terms.specs.Tree.{Tree}
use Rattle.dps_terms.specs.Replace.{put_entries}
use Rattle.dps_theory.specs.Theory.{Theory}
use Rattle.dps_theory.specs.Evaluation.{Evaluates, IsMessage}
use Rattle.dps_theory.specs.Frames.{Succeeds}
use Rattle.dps_static.specs.declared.Test.{Test}
use Rattle.dps_static.specs.declared.Test.TheVariants.{Value, Equal}
use Rattle.dps_static.specs.Naming.{renamed, AreNew}
use Rattle.dps_static.specs.Saturation.{AreValuesOf}
use Rattle.dps_static.specs.Follows.{Follows, IsDifference}
use Rattle.dps_static.specs.Handles.{equality}
use Rattle.dps_static.specs.declared.follow.TwoWays.{TwoWays}
use Rattle.dps_static.specs.declared.carry.Carried.{Carried}
use Rattle.dps_static.specs.declared.carry.Carried.TheVariants.{Values, Lost}
use Rattle.dps_static.specs.declared.uses.RuleUse.{RuleUse}

-- one of the recipes has no value in the frame
pub record IsLost (theory : Theory) (frame recipes : List Tree) (recipe : Tree) : Type 0 where
  pub listed : Contains recipes recipe
  pub fails : ¬ Succeeds theory frame recipe

-- all recipes have their values in the frame, or one has none
abbrev pub IsCarried : Theory → List Tree → List Tree → Carried → Type 0
IsCarried theory frame recipes (Values values) = AreValuesOf theory frame recipes values.items
IsCarried theory frame recipes (Lost recipe) = IsLost theory frame recipes recipe

-- over the counterparts the left way evaluates to what the right way builds
pub record Passes (theory : Theory) (counterparts : List Tree) (one : RuleUse) : Type 0 where
  pub value : Evaluates theory (put_entries counterparts one.left) (put_entries counterparts one.right)

-- the recipe is the left way's, and the counterparts give it no value
pub record IsValueTest (theory : Theory) (recipes counterparts : List Tree) (one : RuleUse) (recipe : Tree) : Type 0 where
  pub names : ℕ → ℕ
  pub new : AreNew names (put_entries counterparts one.left) (put_entries counterparts one.right)
  pub is : recipe ≡ put_entries recipes (renamed names one.left)
  pub fails : ¬ IsMessage theory (put_entries counterparts one.left)

-- the recipes are those of the two ways, and the counterparts give the left one another value
pub record IsEqualTest (theory : Theory) (recipes counterparts : List Tree) (one : RuleUse) (left right : Tree) : Type 0 where
  pub names : ℕ → ℕ
  pub new : AreNew names (put_entries counterparts one.left) (put_entries counterparts one.right)
  pub left_is : left ≡ put_entries recipes (renamed names one.left)
  pub right_is : right ≡ put_entries recipes (renamed names one.right)
  pub value : Tree
  pub evaluates : Evaluates theory (put_entries counterparts one.left) value
  pub differs : ¬ (value ≡ put_entries counterparts one.right)

abbrev pub IsUseTest : Theory → List Tree → List Tree → RuleUse → Test → Type 0
IsUseTest theory recipes counterparts one (Value recipe) = IsValueTest theory recipes counterparts one recipe
IsUseTest theory recipes counterparts one (Equal left right) = IsEqualTest theory recipes counterparts one left right

abbrev pub AllUsesPass : Theory → List Tree → List RuleUse → Type 0
AllUsesPass theory counterparts uses = (one : RuleUse) → Contains uses one → Passes theory counterparts one

-- the counterparts follow the kept trees, and each use passes
pub record AllPass (theory : Theory) (kept counterparts : List Tree) (uses : List RuleUse) : Type 0 where
  pub follows : Follows kept counterparts
  pub passes : AllUsesPass theory counterparts uses

-- the test asks whether two ways have one value, which build one kept tree and different trees from the counterparts
pub record IsDifferenceTest (recipes kept counterparts : List Tree) (test : Test) : Type 0 where
  pub ways : TwoWays
  pub difference : IsDifference kept counterparts ways
  pub is : test ≡ equality recipes ways

-- the test is that of one of the uses
pub record IsTestOfUses (theory : Theory) (recipes counterparts : List Tree) (uses : List RuleUse) (test : Test) : Type 0 where
  pub one : RuleUse
  pub listed : Contains uses one
  pub tests : IsUseTest theory recipes counterparts one test

abbrev pub IsTold : Theory → List Tree → List Tree → List Tree → List RuleUse → Test → Type 0
IsTold theory recipes kept counterparts uses test = IsDifferenceTest recipes kept counterparts test ⊎ IsTestOfUses theory recipes counterparts uses test
