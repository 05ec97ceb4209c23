-- Which frames are matched by which, under a theory. A set of frames is given by what is in it.
use Rattle.std.specs.Prelude.{◌≡◌, ◌↔◌, ◌<◌, ◌^◌, ℕ, Bool, true, false, IsTrue, List, length, Contains}
use Rattle.dps_terms.specs.Tree.{Tree}
use Rattle.dps_signature.specs.Signature.{Signature}
use Rattle.dps_theory.specs.Theory.{Theory}
use Rattle.dps_theory.specs.Frames.{AreStaticallyEquivalent}
use Rattle.dps_static.specs.Saturation.{IsCommonSignature}

-- each frame has this length
abbrev pub HaveLength : ℕ → (List Tree → Type 0) → Type 0
HaveLength n frames = (f : List Tree) → frames f → length f ≡ n

-- all frames have one length
pub record AreLevel (frames others : List Tree → Type 0) : Type 0 where
  pub height : ℕ
  pub few : height < 2 ^ 32
  pub first : HaveLength height frames
  pub second : HaveLength height others

-- the theory and each frame are over the signature
abbrev pub AreFrames : Signature → Theory → (List Tree → Type 0) → Type 0
AreFrames signature theory frames = (f : List Tree) → frames f → IsCommonSignature signature theory f

-- whether two lists are equivalent frames, over each signature over which the theory and both are
abbrev pub AreAlikeAnswer : Theory → List Tree → List Tree → Bool → Type 0
AreAlikeAnswer theory first second answer =
    (signature : Signature) → IsCommonSignature signature theory first → IsCommonSignature signature theory second
    → IsTrue answer ↔ AreStaticallyEquivalent signature theory first second

-- some frame of the set is equivalent
abbrev pub IsMatchedBy : Signature → Theory → (List Tree → Type 0) → List Tree → Type 0
IsMatchedBy signature theory others frame =
    (f : List Tree) × others f × AreStaticallyEquivalent signature theory frame f

-- whether it is so
abbrev pub MatchesFrame : Signature → Theory → List Tree → (List Tree → Type 0) → Bool → Type 0
MatchesFrame signature theory frame others true = IsMatchedBy signature theory others frame
MatchesFrame signature theory frame others false = ¬ IsMatchedBy signature theory others frame

-- over each signature over which the theory and all frames are
abbrev pub IsMatchAnswer : Theory → List Tree → (List Tree → Type 0) → Bool → Type 0
IsMatchAnswer theory frame others answer =
    (signature : Signature) → IsCommonSignature signature theory frame → AreFrames signature theory others
    → MatchesFrame signature theory frame others answer

-- each frame of the first set is matched in the second
abbrev pub AreMatched : Signature → Theory → (List Tree → Type 0) → (List Tree → Type 0) → Type 0
AreMatched signature theory frames others = (f : List Tree) → frames f → IsMatchedBy signature theory others f

-- some frame of the first set is matched by none of the second
abbrev pub OneIsUnmatched : Signature → Theory → (List Tree → Type 0) → (List Tree → Type 0) → Type 0
OneIsUnmatched signature theory frames others = (f : List Tree) × frames f × (¬ IsMatchedBy signature theory others f)

-- which of the two
abbrev pub MatchesAll : Signature → Theory → (List Tree → Type 0) → (List Tree → Type 0) → Bool → Type 0
MatchesAll signature theory frames others true = AreMatched signature theory frames others
MatchesAll signature theory frames others false = OneIsUnmatched signature theory frames others

-- over each signature over which the theory and all frames are
abbrev pub AreMatchAnswer : Theory → (List Tree → Type 0) → (List Tree → Type 0) → Bool → Type 0
AreMatchAnswer theory frames others answer =
    (signature : Signature) → AreFrames signature theory frames → AreFrames signature theory others
    → MatchesAll signature theory frames others answer

-- whether the frame, which counts where some configuration has it, is matched
abbrev pub IsGroupAnswer : Theory → ℕ → List Tree → (List Tree → Type 0) → Bool → Type 0
IsGroupAnswer theory count frame others true = 0 < count → IsMatchAnswer theory frame others true
IsGroupAnswer theory count frame others false = (0 < count) × IsMatchAnswer theory frame others false

-- the list has just the frames of the set
abbrev pub AreJust : List (List Tree) → (List Tree → Type 0) → Type 0
AreJust list frames = (f : List Tree) → Contains list f ↔ frames f
