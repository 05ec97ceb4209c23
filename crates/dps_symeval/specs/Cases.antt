-- How a term with variables may evaluate.
use Rattle.std.specs.Prelude.{◌≡◌, ◌↔◌, ◌⊎◌, ◌<◌, ⊤, ℕ, ◌+◌, Bool, true, false, if◌then◌else◌, List, [], ◌∷◌, ◌++◌, Option, Some, None, map, filter, slice_get, All, Contains}
use Rattle.std.specs.List.{zip, flat_map}
use Rattle.dps_terms.specs.declared.Sym.{Sym}
use Rattle.dps_signature.specs.declared.SymKind.{SymKind}
use Rattle.dps_signature.specs.declared.SymKind.TheVariants.{Constructor, Destructor}
use Rattle.dps_terms.specs.Tree.{Leaf, var, Tree, Trees, leaf, app, none, more, trees, StandsIn}
use Rattle.dps_terms.specs.Replace.{substitute}
use Rattle.dps_signature.specs.Signature.{Shape, HasArity}
use Rattle.dps_terms.specs.Views.{arguments}
use Rattle.dps_terms.specs.Kinds.{IsBuiltOf, IsName}
use Rattle.dps_signature.specs.Kinds.{IsPlain}
use Rattle.dps_unify.specs.Unifier.{Unifies, IsNotUnifiable}
use Rattle.dps_unify.specs.Renaming.{raised}
use Rattle.dps_theory.specs.Theory.{Rule, Theory, IsAccepted}
use Rattle.dps_theory.specs.Evaluation.{Evaluates, AreEqual}
use Rattle.dps_theory.specs.Index.{has_root}
use Rattle.dps_theory.specs.Overlaps.{room}

-- Where the equations hold, the term evaluates to the result.
pub record Case : Type 0 where
  pub equations : List (Tree × Tree)
  pub result : Tree

-- cases of several terms: the equations of all, and a result of each; and the first number that no variable has had
pub record Choices : Type 0 where
  pub equations : List (Tree × Tree)
  pub results : List Tree
  pub next : ℕ

-- the symbol computes by rules
abbrev pub is_destructor_kind : SymKind → Bool
is_destructor_kind Destructor = true
is_destructor_kind Constructor = false

abbrev pub is_destructor_shape : Option Shape → Bool
is_destructor_shape (Some shape) = is_destructor_kind shape.kind
is_destructor_shape None = false

abbrev pub is_destructor : Theory → Sym → Bool
is_destructor theory f = is_destructor_shape (slice_get theory.shapes f.number)

-- the rules of a destructor, in their order
abbrev pub rules_of : Theory → Sym → List Rule
rules_of theory g = filter (λ r. has_root g.number r.left) theory.rules

-- the rule with variables from a number on
abbrev pub rule_from : ℕ → Rule → Rule
rule_from next r = record { left = raised next r.left; right = raised next r.right }

-- the equations that make the results fit the rule
abbrev pub fits_rule : List Tree → Rule → List (Tree × Tree)
fits_rule results r = zip results (arguments r.left)

-- A constructor over the results is one case; a destructor has one for each of its rules, renamed apart.
abbrev pub constructed : Sym → Choices → List Choices
constructed f c = record { equations = c.equations; results = app f (trees c.results) ∷ []; next = c.next } ∷ []

abbrev pub reduced_by : Choices → Rule → Choices
reduced_by c r =
    record {
      equations = c.equations ++ fits_rule c.results (rule_from c.next r);
      results = raised c.next r.right ∷ [];
      next = c.next + room r;
    }

abbrev pub applied : Theory → Sym → Choices → List Choices
applied theory f c = if is_destructor theory f then map (reduced_by c) (rules_of theory f) else constructed f c

abbrev pub joined : Choices → Choices → Choices
joined c d = record { equations = c.equations ++ d.equations; results = c.results ++ d.results; next = d.next }

-- The cases of a term, with new variables from a number on: the first argument's vary slowest, and then the rules fastest.
abbrev mutual
  pub choices : Theory → ℕ → Tree → List Choices
  choices theory next (leaf x) = record { equations = []; results = leaf x ∷ []; next = next } ∷ []
  choices theory next (app f ts) = flat_map (applied theory f) (all_choices theory next ts)

  pub all_choices : Theory → ℕ → Trees → List Choices
  all_choices theory next none = record { equations = []; results = []; next = next } ∷ []
  all_choices theory next (more t ts) = flat_map (λ c. map (joined c) (all_choices theory c.next ts)) (choices theory next t)

-- each case with its result
abbrev pub result_of : List Tree → Tree → Tree
result_of [] t = t
result_of (r ∷ rs) t = r

abbrev pub as_case : Tree → Choices → Case
as_case t c = record { equations = c.equations; result = result_of c.results t }

abbrev pub cases : Theory → ℕ → Tree → List Case
cases theory next t = map (as_case t) (choices theory next t)

-- each case of one term with each of another, the first term's slowest, and the equation of their results
abbrev pub equal_with : Tree → Choices → Tree → Choices → Case
equal_with t c u d =
    record {
      equations = c.equations ++ (d.equations ++ (result_of c.results t, result_of d.results u) ∷ []);
      result = result_of c.results t;
    }

abbrev pub equal_cases : Theory → ℕ → Tree → Tree → List Case
equal_cases theory next t u = flat_map (λ c. map (equal_with t c u) (choices theory c.next u)) (choices theory next t)

-- for some values of the new variables the equations of some case hold
pub record SomeCaseHolds (cases : List Case) (old : ℕ → Type 0) (z : ℕ → Tree) (gives : Tree → Type 0) : Type 0 where
  pub used : Case
  pub listed : Contains cases used
  pub values : ℕ → Tree
  pub agree : (x : ℕ) → old x → values x ≡ z x
  pub equations : Unifies values used.equations
  pub result : gives (substitute values used.result)

-- a name or a variable
abbrev pub IsNameOrVariable : Leaf → Type 0
IsNameOrVariable (var x) = ⊤
IsNameOrVariable x = IsName x

-- messages stand for the variables of a term over the symbols, whose numbers are below the first new one
pub record ClosesTerm (theory : Theory) (next : ℕ) (t : Tree) (z : ℕ → Tree) : Type 0 where
  pub over : IsBuiltOf IsNameOrVariable (HasArity theory.shapes) t
  pub below : (x : ℕ) → StandsIn (var x) t → x < next
  pub messages : (x : ℕ) → StandsIn (var x) t → IsPlain theory.shapes (z x)

-- What a reader expects: under messages for its variables a term evaluates to v exactly where some case holds and its result
-- is v; and two terms evaluate to one value exactly where one of their joined cases holds.
abbrev pub CasesCover : Type 0
CasesCover =
    (theory : Theory) (next : ℕ) (t v : Tree) (z : ℕ → Tree)
    → IsAccepted theory
    → ClosesTerm theory next t z
    → Evaluates theory (substitute z t) v ↔ SomeCaseHolds (cases theory next t) (λ x. StandsIn (var x) t) z (λ r. r ≡ v)

abbrev pub EqualCasesCover : Type 0
EqualCasesCover =
    (theory : Theory) (next : ℕ) (t u : Tree) (z : ℕ → Tree)
    → IsAccepted theory
    → ClosesTerm theory next t z
    → ClosesTerm theory next u z
    → AreEqual theory (substitute z t) (substitute z u)
    ↔ SomeCaseHolds (equal_cases theory next t u) (λ x. StandsIn (var x) t ⊎ StandsIn (var x) u) z (λ r. ⊤)

-- What the code may answer in the place of a list of cases: the cases in order, some of those left out whose equations
-- nothing makes true.
pub data IsPruned : List Case → List Case → Type 0 where
  all_seen : IsPruned [] []
  keeps : {c : Case} {all kept : List Case} → IsPruned all kept → IsPruned (c ∷ all) (c ∷ kept)
  leaves_out : {c : Case} {all kept : List Case} → IsNotUnifiable c.equations → IsPruned all kept → IsPruned (c ∷ all) kept

-- some substitution makes the equations true
abbrev pub IsUnifiable : List (Tree × Tree) → Type 0
IsUnifiable equations = (r : ℕ → Tree) × Unifies r equations

-- What the code answers: the cases in order, just those left out whose equations nothing makes true.
pub record ArePossible (all kept : List Case) : Type 0 where
  pub pruned : IsPruned all kept
  pub possible : All (λ c. IsUnifiable c.equations) kept

-- There is one such list.
abbrev pub PossibleCasesAreOne : Type 0
PossibleCasesAreOne = (all kept others : List Case) → ArePossible all kept → ArePossible all others → kept ≡ others

-- The cases cover evaluation where such are left out; and there the values of the case agree with the given ones on all numbers before the new ones, also
-- on those of other terms.
abbrev pub PrunedCasesCover : Type 0
PrunedCasesCover =
    (theory : Theory) (next : ℕ) (t v : Tree) (z : ℕ → Tree) (kept : List Case)
    → IsAccepted theory
    → ClosesTerm theory next t z
    → IsPruned (cases theory next t) kept
    → Evaluates theory (substitute z t) v ↔ SomeCaseHolds kept (λ x. x < next) z (λ r. r ≡ v)

abbrev pub PrunedEqualCasesCover : Type 0
PrunedEqualCasesCover =
    (theory : Theory) (next : ℕ) (t u : Tree) (z : ℕ → Tree) (kept : List Case)
    → IsAccepted theory
    → ClosesTerm theory next t z
    → ClosesTerm theory next u z
    → IsPruned (equal_cases theory next t u) kept
    → AreEqual theory (substitute z t) (substitute z u) ↔ SomeCaseHolds kept (λ x. x < next) z (λ r. ⊤)
