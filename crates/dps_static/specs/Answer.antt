-- What an answer says of two frames.
use Rattle.std.specs.Prelude.{◌≡◌, ◌↔◌, ◌⊎◌, List, [], ◌∷◌, length, map, Contains, Option, MatchOption}
use Rattle.dps_terms.specs.Tree.{Tree}
use Rattle.dps_terms.specs.Replace.{put_entries}
use Rattle.dps_signature.specs.Signature.{Signature}
use Rattle.dps_signature.specs.Kinds.{IsRecipe}
use Rattle.dps_theory.specs.Theory.{Theory}
use Rattle.dps_theory.specs.Frames.{IsFrame, HasValue, Succeeds, HaveOneValue, AreStaticallyEquivalent, Separates, Test, succeeds, equal}
use Rattle.dps_static.specs.Ways.{IsWay}
use Rattle.dps_static.specs.Saturation.{IsCommonSignature}
use Rattle.dps_static.specs.declared.Test.{Test as Question}
use Rattle.dps_static.specs.declared.Test.TheVariants.{Value, Equal}
use Rattle.dps_static.specs.declared.Comparison.{Comparison}
use Rattle.dps_static.specs.declared.Comparison.TheVariants.{Same, Differ}

-- the test as static equivalence has it
abbrev pub test_of : Question → Test
test_of (Value recipe) = succeeds recipe
test_of (Equal recipe other) = equal recipe other

-- the test holds in just one of the frames
abbrev pub TellsApart : Signature → Theory → List Tree → List Tree → Test → Type 0
TellsApart signature theory first second test =
    Separates signature theory first second test ⊎ Separates signature theory second first test

-- `Same` says that the frames are statically equivalent, and `Differ` has a test that tells them apart
abbrev pub IsAnswer : Signature → Theory → List Tree → List Tree → Comparison → Type 0
IsAnswer signature theory first second Same = AreStaticallyEquivalent signature theory first second
IsAnswer signature theory first second (Differ test) = TellsApart signature theory first second (test_of test)

-- what holds in the first frame holds in the second
pub record IsAtMost (signature : Signature) (theory : Theory) (first second : List Tree) : Type 0 where
  pub successes : (r : Tree) → IsRecipe signature (length first) r → Succeeds theory first r → Succeeds theory second r
  pub equalities : (r s : Tree) → IsRecipe signature (length first) r → IsRecipe signature (length first) s → HaveOneValue theory first r s → HaveOneValue theory second r s

-- Over each signature over which the theory and both frames are: a test that was found holds in the first frame and fails
-- in the second, and where none was found, what holds in the first frame holds in the second.
abbrev pub IsRefutation : Theory → List Tree → List Tree → Option Question → Type 0
IsRefutation theory first second found =
    (signature : Signature) → IsCommonSignature signature theory first → IsCommonSignature signature theory second
    → MatchOption found (IsAtMost signature theory first second) (λ test. Separates signature theory first second (test_of test))

-- the answer is right over each signature over which the theory and both frames are
abbrev pub IsAnswerUnder : Theory → List Tree → List Tree → Comparison → Type 0
IsAnswerUnder theory first second answer =
    (signature : Signature) → IsCommonSignature signature theory first → IsCommonSignature signature theory second
    → IsAnswer signature theory first second answer

abbrev pub IsRecipeOf : Signature → Theory → List Tree → Tree → Tree → Type 0
IsRecipeOf signature theory frame message r = IsRecipe signature (length frame) r × HasValue theory frame r message

-- Over each signature over which the theory and the frame are, and which has the message as a frame's: a recipe that was found has the message for its
-- value, and where none was found, none has.
abbrev pub IsDeduction : Theory → List Tree → Tree → Option Tree → Type 0
IsDeduction theory frame message found =
    (signature : Signature) → IsCommonSignature signature theory frame → IsFrame signature (message ∷ [])
    → MatchOption found ((r : Tree) → ¬ IsRecipeOf signature theory frame message r) (IsRecipeOf signature theory frame message)

-- some way of symbols and public names builds the message from the values
pub record IsBuiltFrom (values : List Tree) (message : Tree) : Type 0 where
  pub way : Tree
  pub is_way : IsWay (length values) way
  pub gives : put_entries values way ≡ message

-- each pair is a recipe with its value, and each message that has a recipe is built from the values
pub record IsSaturatedOver (signature : Signature) (theory : Theory) (frame : List Tree) (pairs : List (Tree × Tree)) : Type 0 where
  pub are_values : (pair : Tree × Tree) → Contains pairs pair → IsRecipeOf signature theory frame pair.1 pair.0
  pub builds : (message r : Tree) → IsRecipeOf signature theory frame message r → IsBuiltFrom (map (λ pair. pair.1) pairs) message

-- the same over each signature over which the theory and the frame are
abbrev pub IsSaturated : Theory → List Tree → List (Tree × Tree) → Type 0
IsSaturated theory frame pairs =
    (signature : Signature) → IsCommonSignature signature theory frame → IsSaturatedOver signature theory frame pairs

-- a right answer is `Same` exactly where the frames are statically equivalent
abbrev pub AnswersDecide : Type 0
AnswersDecide =
    (signature : Signature) (theory : Theory) (first second : List Tree) (answer : Comparison)
    → IsAnswer signature theory first second answer
    → (answer ≡ Same) ↔ AreStaticallyEquivalent signature theory first second
