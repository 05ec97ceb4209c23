-- What a reader expects of evaluation and static equivalence, each stated as one fact.
use Rattle.std.specs.Prelude.{◌≡◌, ◌↔◌, ◌⊎◌, ℕ, List, ◌++◌, take, length, All}
use Rattle.dps_terms.specs.declared.PublicName.TheVariants.{Declared}
use Rattle.dps_terms.specs.Tree.{Leaf, public, Tree, leaf, StandsIn}
use Rattle.dps_terms.specs.Replace.{replace}
use Rattle.dps_signature.specs.Signature.{Shape, Signature, shapes}
use Rattle.dps_terms.specs.Kinds.{AnySymbol, IsBuiltOf, IsName, IsNoVariable}
use Rattle.dps_signature.specs.Kinds.{IsLeafOver, IsPlain, IsRecipe}
use Rattle.dps_theory.specs.Theory.{Rule, Theory, HasRule, IsAccepted, HasPlainRules}
use Rattle.dps_theory.specs.Checking.{HaveFault}
use Rattle.dps_theory.specs.Conditions.{AreCheckable, IsRuleOver}
use Rattle.dps_theory.specs.Projections.{projections}
use Rattle.dps_theory.specs.Evaluation.{Evaluates}
use Rattle.dps_theory.specs.Frames.{HasValue, Succeeds, AreStaticallyEquivalent, AreToldApart}

-- rules with a first fault make no accepted theory, also behind other rules
abbrev pub FaultyRulesAreNotAccepted : Type 0
FaultyRulesAreNotAccepted = (shapes : List Shape) (others rules : List Rule) → HaveFault shapes rules → ¬ IsAccepted (record { shapes = shapes; rules = others ++ rules })

-- Rules of a signature that are accepted by themselves are accepted behind those of its projections, and all of them are over
-- the signature and hold declared names and variables alone.
pub record AreAcceptedOver (signature : Signature) (theory : Theory) : Type 0 where
  pub accepted : IsAccepted theory
  pub over : (r : Rule) → HasRule theory r → IsRuleOver signature r
  pub plain : HasPlainRules theory

abbrev pub AcceptedRulesJoinProjections : Type 0
AcceptedRulesJoinProjections =
    (signature : Signature) (rules : List Rule)
    → AreCheckable signature rules
    → IsAccepted (record { shapes = shapes signature; rules = rules })
    → AreAcceptedOver signature (record { shapes = shapes signature; rules = projections signature ++ rules })

-- under an accepted theory a term has at most one value
abbrev pub EvaluatesAtMostOnce : Type 0
EvaluatesAtMostOnce = (theory : Theory) (t v w : Tree) → IsAccepted theory → Evaluates theory t v → Evaluates theory t w → v ≡ w

-- a term of constructors over names evaluates to itself, and to nothing else
abbrev pub PlainStays : Type 0
PlainStays = (theory : Theory) (t : Tree) → IsPlain theory.shapes t → Evaluates theory t t × ((v : Tree) → Evaluates theory t v → v ≡ t)

-- where the rules hold declared names and variables alone, what a term evaluates to evaluates to itself
abbrev pub ValuesArePlain : Type 0
ValuesArePlain = (theory : Theory) (t v : Tree) → IsAccepted theory → HasPlainRules theory → Evaluates theory t v → IsPlain theory.shapes v

-- a value holds no leaf but those of its term and of the right sides of rules
abbrev pub ValuesHoldNoNewLeaf : Type 0
ValuesHoldNoNewLeaf =
    (theory : Theory) (t v : Tree)
    → IsAccepted theory
    → Evaluates theory t v
    → (x : Leaf)
    → StandsIn x v
    → StandsIn x t ⊎ ((r : Rule) × HasRule theory r × StandsIn x r.right)

-- what a replacement leaves of the rules of a theory: each leaf that stands in them and is no variable
pub record KeepsRules (theory : Theory) (f : Leaf → Tree) : Type 0 where
  pub left : (r : Rule) → HasRule theory r → (x : Leaf) → StandsIn x r.left → IsNoVariable x → f x ≡ leaf x
  pub right : (r : Rule) → HasRule theory r → (x : Leaf) → StandsIn x r.right → IsNoVariable x → f x ≡ leaf x

-- rules of declared names and variables are left by whatever leaves the declared names
abbrev pub PlainRulesAreKept : Type 0
PlainRulesAreKept =
    (theory : Theory) (f : Leaf → Tree)
    → HasPlainRules theory
    → ((n : ℕ) → f (public (Declared n)) ≡ leaf (public (Declared n)))
    → KeepsRules theory f

-- evaluation is kept where names that stand in no rule become terms that evaluate to themselves
abbrev pub ReplacedNamesEvaluate : Type 0
ReplacedNamesEvaluate =
    (theory : Theory) (f : Leaf → Tree) (t v : Tree)
    → KeepsRules theory f
    → ((x : Leaf) → IsName x → Evaluates theory (f x) (f x))
    → Evaluates theory t v
    → Evaluates theory (replace f t) (replace f v)

-- and it is kept backwards where the replacement can be undone on the term
abbrev pub ReplacedNamesReflect : Type 0
ReplacedNamesReflect =
    (theory : Theory) (f back : Leaf → Tree) (t w : Tree)
    → KeepsRules theory back
    → ((x : Leaf) → IsName x → Evaluates theory (back x) (back x))
    → ((x : Leaf) → StandsIn x t → replace back (f x) ≡ leaf x)
    → Evaluates theory (replace f t) w
    → Evaluates theory t (replace back w)

-- static equivalence is an equivalence
abbrev pub StaticallyReflexive : Type 0
StaticallyReflexive = (signature : Signature) (theory : Theory) (frame : List Tree) → AreStaticallyEquivalent signature theory frame frame

abbrev pub StaticallySymmetric : Type 0
StaticallySymmetric =
    (signature : Signature) (theory : Theory) (first second : List Tree)
    → AreStaticallyEquivalent signature theory first second → AreStaticallyEquivalent signature theory second first

abbrev pub StaticallyTransitive : Type 0
StaticallyTransitive =
    (signature : Signature) (theory : Theory) (first second third : List Tree)
    → AreStaticallyEquivalent signature theory first second
    → AreStaticallyEquivalent signature theory second third
    → AreStaticallyEquivalent signature theory first third

-- statically equivalent frames begin with statically equivalent frames
abbrev pub PrefixesStayEquivalent : Type 0
PrefixesStayEquivalent =
    (signature : Signature) (theory : Theory) (first second : List Tree) (n : ℕ)
    → AreStaticallyEquivalent signature theory first second
    → AreStaticallyEquivalent signature theory (take n first) (take n second)

-- a test that holds in just one frame refutes it
abbrev pub SeparatedAreNotEquivalent : Type 0
SeparatedAreNotEquivalent =
    (signature : Signature) (theory : Theory) (first second : List Tree)
    → AreToldApart signature theory first second
    → ¬ AreStaticallyEquivalent signature theory first second

-- the same in terms of values: two recipes that have values in both frames have equal ones in both or in neither
pub record AgreeOnValues (signature : Signature) (theory : Theory) (first second : List Tree) : Type 0 where
  pub same_length : length first ≡ length second
  pub same_successes :
      (r : Tree) → IsRecipe signature (length first) r
      → Succeeds theory first r ↔ Succeeds theory second r
  pub same_equalities :
      (r s : Tree) → IsRecipe signature (length first) r → IsRecipe signature (length first) s
      → (v w x y : Tree) → HasValue theory first r v → HasValue theory first s w → HasValue theory second r x → HasValue theory second s y
      → (v ≡ w) ↔ (x ≡ y)

-- under an accepted theory that is static equivalence
abbrev pub EquivalenceIsOfValues : Type 0
EquivalenceIsOfValues =
    (signature : Signature) (theory : Theory) (first second : List Tree)
    → IsAccepted theory
    → AreStaticallyEquivalent signature theory first second ↔ AgreeOnValues signature theory first second

-- each declared name that stands in the tree is a public one of the signature
abbrev pub HasNamesOf : Signature → Tree → Type 0
HasNamesOf signature t = IsBuiltOf (IsLeafOver signature) AnySymbol t

-- Which names are declared matters to no static equivalence, where those of the frames and of the rules are: frames that
-- are equivalent over one signature are so over another of the same symbols.
abbrev pub UndeclaredNamesAreUnseen : Type 0
UndeclaredNamesAreUnseen =
    (one two : Signature) (theory : Theory) (first second : List Tree)
    → shapes one ≡ shapes two
    → HasPlainRules theory
    → ((r : Rule) → HasRule theory r → HasNamesOf one r.left × HasNamesOf one r.right)
    → All (HasNamesOf one) first
    → All (HasNamesOf one) second
    → AreStaticallyEquivalent one theory first second
    → AreStaticallyEquivalent two theory first second
