-- What a reader expects of evaluation alone: what each form of term evaluates to, and that it evaluates in no other way; that
-- it is decided; what projections compute; and that private names go by other numbers.
use Rattle.std.specs.Prelude.{◌≡◌, ◌↔◌, ◌⊎◌, ◌≤◌, ◌-◌, ℕ, List, ◌++◌, length, slice_get, Some}
use Rattle.dps_terms.specs.declared.Sym.{Sym}
use Rattle.dps_signature.specs.declared.SymKind.TheVariants.{Constructor, Destructor}
use Rattle.dps_terms.specs.Tree.{Leaf, public, private, var, ax, entry, rigid, Tree, Trees, leaf, app, none, more, trees, count}
use Rattle.dps_terms.specs.Replace.{replace, substitute, private_names_to}
use Rattle.dps_signature.specs.Signature.{Signature, HasShape, shapes}
use Rattle.dps_signature.specs.Names.{tuple_name, projection_name, symbol_named}
use Rattle.dps_theory.specs.Theory.{Rule, Theory, HasRule, IsAccepted, HasPlainRules}
use Rattle.dps_theory.specs.Conditions.{AreCheckable}
use Rattle.dps_theory.specs.Projections.{projections}
use Rattle.dps_theory.specs.Evaluation.{Evaluates, EvaluateAll, IsMessage, AreEqual}

-- a public, a private or a rigid name has itself as its value; a variable, a handle and an entry have none
abbrev pub IsLeafValue : Leaf → Tree → Type 0
IsLeafValue (public n) v = v ≡ leaf (public n)
IsLeafValue (private n) v = v ≡ leaf (private n)
IsLeafValue (rigid n) v = v ≡ leaf (rigid n)
IsLeafValue (var n) v = ⊥
IsLeafValue (ax j) v = ⊥
IsLeafValue (entry i) v = ⊥

abbrev pub LeavesEvaluate : Type 0
LeavesEvaluate = (theory : Theory) (x : Leaf) (v : Tree) → Evaluates theory (leaf x) v ↔ IsLeafValue x v

-- terms evaluate to values one by one
abbrev pub ArgumentsEvaluate : Type 0
ArgumentsEvaluate =
    (theory : Theory) (ts vs : List Tree)
    → EvaluateAll theory (trees ts) (trees vs)
    ↔ ((length ts ≡ length vs) × ((i : ℕ) (t v : Tree) → slice_get ts i ≡ Some t → slice_get vs i ≡ Some v → Evaluates theory t v))

-- a constructor over terms that all have values: itself over these
abbrev pub ConstructorsEvaluate : Type 0
ConstructorsEvaluate =
    (theory : Theory) (f : Sym) (ts : Trees) (v : Tree)
    → HasShape theory.shapes Constructor f (count ts)
    → Evaluates theory (app f ts) v ↔ ((vs : Trees) × EvaluateAll theory ts vs × (v ≡ app f vs))

-- a destructor over terms that all have values: an instance of a right side, where that of the left side is the destructor
-- over these
abbrev pub DestructorsEvaluate : Type 0
DestructorsEvaluate =
    (theory : Theory) (g : Sym) (ts : Trees) (v : Tree)
    → IsAccepted theory
    → HasShape theory.shapes Destructor g (count ts)
    → Evaluates theory (app g ts) v
    ↔ ((vs : Trees) × EvaluateAll theory ts vs
    × ((rule : Rule) × HasRule theory rule × ((z : ℕ → Tree) × (substitute z rule.left ≡ app g vs) × (substitute z rule.right ≡ v))))

-- a symbol that is not there, or is there with another number of arguments, has no value
abbrev pub UnknownSymbolsHaveNoValue : Type 0
UnknownSymbolsHaveNoValue =
    (theory : Theory) (f : Sym) (ts : Trees)
    → ¬ HasShape theory.shapes Constructor f (count ts)
    → ¬ HasShape theory.shapes Destructor f (count ts)
    → ¬ IsMessage theory (app f ts)

-- under an accepted theory each term is a message or none
abbrev pub EvaluationIsDecided : Type 0
EvaluationIsDecided = (theory : Theory) (t : Tree) → IsAccepted theory → IsMessage theory t ⊎ ¬ IsMessage theory t

-- and any two terms have one value or not
abbrev pub EqualityIsDecided : Type 0
EqualityIsDecided = (theory : Theory) (t u : Tree) → IsAccepted theory → AreEqual theory t u ⊎ ¬ AreEqual theory t u

-- The i-th projection of tuples of length n gives the i-th member of such a tuple, and gives nothing of whatever else.
abbrev pub ProjectionsGiveMembers : Type 0
ProjectionsGiveMembers =
    (signature : Signature) (rules : List Rule) (n f i g : ℕ) (t v : Tree)
    → AreCheckable signature rules
    → 2 ≤ n
    → n ≤ 8
    → symbol_named signature (tuple_name n) ≡ Some f
    → 1 ≤ i
    → i ≤ n
    → symbol_named signature (projection_name i n) ≡ Some g
    → let theory : Theory = record { shapes = shapes signature; rules = projections signature ++ rules } in
    Evaluates theory (app (record { number = g }) (more t none)) v
    ↔ ((members : List Tree) × (length members ≡ n) × Evaluates theory t (app (record { number = f }) (trees members)) × (slice_get members (i - 1) ≡ Some v))

-- private names by other numbers
abbrev pub renumbered : (ℕ → ℕ) → Tree → Tree
renumbered to t = replace (private_names_to (λ n. leaf (private (to n)))) t

-- Where the rules hold no private name, evaluation does not see the numbers of private names.
abbrev pub PrivateNamesAreAlike : Type 0
PrivateNamesAreAlike =
    (theory : Theory) (to back : ℕ → ℕ) (t v : Tree)
    → HasPlainRules theory
    → ((n : ℕ) → back (to n) ≡ n)
    → Evaluates theory t v ↔ Evaluates theory (renumbered to t) (renumbered to v)
