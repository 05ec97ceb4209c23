-- What rules make of a term at its root, and what a symbol gives over values.
use Rattle.std.specs.Prelude.{◌≡◌, ◌<◌, ◌⊎◌, ℕ, List, ◌∷◌, take, drop, length, slice_get, Some, Contains, All}
use Rattle.dps_terms.specs.declared.Sym.{Sym}
use Rattle.dps_signature.specs.declared.SymKind.TheVariants.{Constructor, Destructor}
use Rattle.dps_terms.specs.Tree.{Tree, Trees, trees, app, count}
use Rattle.dps_terms.specs.Replace.{substitute}
use Rattle.dps_signature.specs.Signature.{HasShape}
use Rattle.dps_theory.specs.Theory.{Rule, Theory}
use Rattle.dps_theory.specs.Evaluation.{Reduces}

-- a substitution makes the left side the term and the right side the value
pub record IsInstance (rule : Rule) (t v : Tree) : Type 0 where
  pub by : ℕ → Tree
  pub left : substitute by rule.left ≡ t
  pub right : substitute by rule.right ≡ v

-- no substitution makes the left side the term
abbrev pub DoesNotFit : Rule → Tree → Type 0
DoesNotFit rule t = (by : ℕ → Tree) → ¬ (substitute by rule.left ≡ t)

-- some rule makes the value of the term
pub record IsReduct (rules : List Rule) (t v : Tree) : Type 0 where
  pub rule : Rule
  pub listed : Contains rules rule
  pub fits : IsInstance rule t v

-- no rule fits the term
abbrev pub IsStuck : List Rule → Tree → Type 0
IsStuck rules t = (rule : Rule) → Contains rules rule → DoesNotFit rule t

-- all rules that fit the term stand at these places
pub record HasAllAt (rules : List Rule) (places : List ℕ) (t : Tree) : Type 0 where
  pub within : All (λ place. place < length rules) places
  pub others : (k : ℕ) (rule : Rule) → slice_get rules k ≡ Some rule → Contains places k ⊎ DoesNotFit rule t

-- A constructor gives itself over the values, and a destructor what some rule makes of them.
abbrev pub Gives : Theory → Sym → Trees → Tree → Type 0
Gives theory f vs v =
    (HasShape theory.shapes Constructor f (count vs) × (v ≡ app f vs))
    ⊎ (HasShape theory.shapes Destructor f (count vs) × Reduces theory f vs v)

abbrev pub GivesNothing : Theory → Sym → Trees → Type 0
GivesNothing theory f vs = (v : Tree) → ¬ Gives theory f vs v

-- what the symbol gives over the trees in front, of which it takes so many, took their place
pub record PutsGiven (theory : Theory) (f : Sym) (arity : ℕ) (old new : List Tree) : Type 0 where
  pub value : Tree
  pub put : new ≡ value ∷ drop arity old
  pub gives : Gives theory f (trees (take arity old)) value

-- what some rule makes of the term was put in front
pub record PutsReduct (rules : List Rule) (t : Tree) (rest new : List Tree) : Type 0 where
  pub value : Tree
  pub put : new ≡ value ∷ rest
  pub is : IsReduct rules t value
