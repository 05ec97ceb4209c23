-- Lists of kept trees that are closed under the rules of a theory, and the recipes of their trees.
use Rattle.std.specs.Prelude.{◌≡◌, ◌⊎◌, ℕ, List, [], ◌∷◌, length, slice_get, Some, Contains, All}
use Rattle.dps_terms.specs.declared.Sym.{Sym}
use Rattle.dps_terms.specs.declared.PublicName.TheVariants.{At}
use Rattle.dps_terms.specs.Tree.{public, Tree, Trees, leaf, app, IsSubterm}
use Rattle.dps_terms.specs.Replace.{substitute, substitute_all}
use Rattle.dps_signature.specs.Signature.{Signature, shapes}
use Rattle.dps_terms.specs.Kinds.{IsClosed}
use Rattle.dps_signature.specs.Kinds.{IsPlain, IsOver, IsRecipe}
use Rattle.dps_theory.specs.Theory.{Rule, Theory, HasRule}
use Rattle.dps_theory.specs.Conditions.{IsRuleOver}
use Rattle.dps_theory.specs.Frames.{IsFrame, HasValue}
use Rattle.dps_static.specs.Handles.{handles}
use Rattle.dps_static.specs.Generic.{IsBuilt, AreBuilt, HaveNoRigidName, generic, CoversAll}

-- the attacker's name of the same number
abbrev pub own_name : ℕ → Tree
own_name k = leaf (public (At k))

-- where the generic instance of the patterns is built, so is that of the right side
pub record IsDone (kept : List Tree) (patterns : Trees) (right : Tree) (s : List (ℕ × Tree)) : Type 0 where
  pub done : AreBuilt kept (substitute_all (generic s) patterns) → IsBuilt kept (substitute (generic s) right)

-- the substitutions that were found for a rule cover its left side, and with each of them the rule gives what is built
pub record IsRuleClosed (kept : List Tree) (patterns : Trees) (right : Tree) : Type 0 where
  pub found : List (List (ℕ × Tree))
  pub covers : CoversAll kept patterns ([] ∷ []) found
  pub done : (s : List (ℕ × Tree)) → Contains found s → IsDone kept patterns right s

-- each rule gives what is built
pub record IsClosedUnder (theory : Theory) (kept : List Tree) : Type 0 where
  pub rules : (rule : Rule) (g : Sym) (patterns : Trees) → HasRule theory rule → rule.left ≡ app g patterns → IsRuleClosed kept patterns rule.right

-- all trees are built of constructors over names, and hold no rigid name
pub record IsCleanFrame (theory : Theory) (frame : List Tree) : Type 0 where
  pub plain : (k : ℕ) (t : Tree) → slice_get frame k ≡ Some t → IsPlain theory.shapes t
  pub low : HaveNoRigidName frame

-- what begins with the messages
abbrev pub StartsWith : List Tree → List Tree → Type 0
StartsWith kept frame = (k : ℕ) (t : Tree) → slice_get frame k ≡ Some t → slice_get kept k ≡ Some t

-- each kept tree is the value of the recipe at its place
pub record AreValuesOf (theory : Theory) (frame recipes kept : List Tree) : Type 0 where
  pub same_length : length recipes ≡ length kept
  pub values : (i : ℕ) (r v : Tree) → slice_get recipes i ≡ Some r → slice_get kept i ≡ Some v → HasValue theory frame r v

-- the signature has the symbols of the theory, and all is over it
pub record IsCommonSignature (signature : Signature) (theory : Theory) (frame : List Tree) : Type 0 where
  pub same_symbols : theory.shapes ≡ shapes signature
  pub rules_over : (r : Rule) → HasRule theory r → IsRuleOver signature r
  pub is_frame : IsFrame signature frame

-- a part of a message, or of a ground right side
pub record IsMessagePart (frame : List Tree) (t : Tree) : Type 0 where
  pub place : ℕ
  pub whole : Tree
  pub there : slice_get frame place ≡ Some whole
  pub within : IsSubterm t whole

pub record IsGroundPart (theory : Theory) (t : Tree) : Type 0 where
  pub rule : Rule
  pub listed : HasRule theory rule
  pub ground : IsClosed rule.right
  pub within : IsSubterm t rule.right

abbrev pub IsPossible : Theory → List Tree → Tree → Type 0
IsPossible theory frame t = IsMessagePart frame t ⊎ IsGroundPart theory t

-- Recipes and kept trees: the kept trees begin with the messages, and the recipes with their handles; the kept trees are
-- parts of messages or of ground right sides. Where the messages are built of constructors over names, the kept trees are the values of the recipes; and over each common
-- signature these are recipes.
pub record AreKnown (theory : Theory) (frame recipes kept : List Tree) : Type 0 where
  pub same_length : length recipes ≡ length kept
  pub starts : StartsWith kept frame
  pub handled : StartsWith recipes (handles (length frame))
  pub possible : (k : ℕ) (t : Tree) → slice_get kept k ≡ Some t → IsPossible theory frame t
  pub values : IsCleanFrame theory frame → AreValuesOf theory frame recipes kept
  pub are_recipes : (signature : Signature) → IsCommonSignature signature theory frame → All (IsRecipe signature (length frame)) recipes

-- the kept trees are known, closed under the rules, and as clean as the messages
pub record IsSaturation (theory : Theory) (frame recipes kept : List Tree) : Type 0 where
  pub known : AreKnown theory frame recipes kept
  pub closed : IsClosedUnder theory kept
  pub clean : IsCleanFrame theory frame → IsCleanFrame theory kept
  pub over : (signature : Signature) → IsCommonSignature signature theory frame → All (IsOver signature) kept
