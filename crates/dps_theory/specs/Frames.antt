-- Frames, recipes and static equivalence.
use Rattle.std.specs.Prelude.{◌≡◌, ◌↔◌, ◌⊎◌, ℕ, List, length, All}
use Rattle.dps_terms.specs.Tree.{Tree}
use Rattle.dps_terms.specs.Replace.{in_frame}
use Rattle.dps_signature.specs.Signature.{Signature, shapes}
use Rattle.dps_signature.specs.Kinds.{IsFrameMessage, IsOver, IsRecipe}
use Rattle.dps_theory.specs.Theory.{Theory}
use Rattle.dps_theory.specs.Evaluation.{Evaluates, IsMessage, AreEqual}

-- A frame is the list of the messages `ax1` to `axm` that a process has put out.
abbrev pub IsFrame : Signature → List Tree → Type 0
IsFrame signature frame = All (λ t. IsFrameMessage (shapes signature) t × IsOver signature t) frame

-- A recipe over a frame is a term of symbols of the signature over public names and the frame's handles (`IsRecipe`): the
-- attacker's way to compute.

-- the recipe has the value in the frame
abbrev pub HasValue : Theory → List Tree → Tree → Tree → Type 0
HasValue theory frame r v = Evaluates theory (in_frame frame r) v

-- the recipe has some value in the frame
abbrev pub Succeeds : Theory → List Tree → Tree → Type 0
Succeeds theory frame r = IsMessage theory (in_frame frame r)

-- the two recipes have one value in the frame
abbrev pub HaveOneValue : Theory → List Tree → Tree → Tree → Type 0
HaveOneValue theory frame r s = AreEqual theory (in_frame frame r) (in_frame frame s)

-- No attacker tells the frames apart: they have one length, each recipe has a value in both or in neither, and any two
-- recipes have one value in both or in neither.
pub record AreStaticallyEquivalent (signature : Signature) (theory : Theory) (first second : List Tree) : Type 0 where
  pub same_length : length first ≡ length second
  pub same_successes :
      (r : Tree) → IsRecipe signature (length first) r
      → Succeeds theory first r ↔ Succeeds theory second r
  pub same_equalities :
      (r s : Tree) → IsRecipe signature (length first) r → IsRecipe signature (length first) s
      → HaveOneValue theory first r s ↔ HaveOneValue theory second r s

-- a test that an attacker makes on a frame: whether a recipe has a value, or whether two have one value
pub data Test : Type 0 where
  succeeds : Tree → Test
  equal : Tree → Tree → Test

abbrev pub IsTest : Signature → ℕ → Test → Type 0
IsTest signature m (succeeds r) = IsRecipe signature m r
IsTest signature m (equal r s) = IsRecipe signature m r × IsRecipe signature m s

abbrev pub HoldsIn : Theory → List Tree → Test → Type 0
HoldsIn theory frame (succeeds r) = Succeeds theory frame r
HoldsIn theory frame (equal r s) = HaveOneValue theory frame r s

-- the test holds in the first frame and fails in the second
pub record Separates (signature : Signature) (theory : Theory) (first second : List Tree) (test : Test) : Type 0 where
  pub over : IsTest signature (length first) test
  pub holds : HoldsIn theory first test
  pub fails : ¬ HoldsIn theory second test

-- some test over one of the frames holds in that one alone
abbrev pub AreToldApart : Signature → Theory → List Tree → List Tree → Type 0
AreToldApart signature theory first second =
    (test : Test) × (Separates signature theory first second test ⊎ Separates signature theory second first test)
