-- Evaluation, by call by value.
use Rattle.std.specs.Prelude.{◌≡◌, ℕ}
use Rattle.dps_terms.specs.declared.Sym.{Sym}
use Rattle.dps_signature.specs.declared.SymKind.TheVariants.{Constructor, Destructor}
use Rattle.dps_terms.specs.Tree.{Leaf, Tree, Trees, leaf, app, none, more, count}
use Rattle.dps_terms.specs.Replace.{substitute, substitute_all}
use Rattle.dps_signature.specs.Signature.{HasShape}
use Rattle.dps_terms.specs.Kinds.{IsName}
use Rattle.dps_theory.specs.Theory.{Rule, Theory, HasRule}

-- a rule `g(l1,..,ln) -> r`, and a substitution that makes the arguments of its left side vs and its right side v
pub record Reduces (theory : Theory) (g : Sym) (vs : Trees) (v : Tree) : Type 0 where
  pub rule : Rule
  pub listed : HasRule theory rule
  pub patterns : Trees
  pub left : rule.left ≡ app g patterns
  pub by : ℕ → Tree
  pub matched : substitute_all by patterns ≡ vs
  pub right : substitute by rule.right ≡ v

-- The term evaluates to the value. A name evaluates to itself, a constructor to itself over its arguments' values, and a
-- destructor by a rule that fits its arguments' values. Variables, handles and entries evaluate to nothing.
mutual
  pub data Evaluates (theory : Theory) : Tree → Tree → Type 0 where
    named : {x : Leaf} → IsName x → Evaluates theory (leaf x) (leaf x)
    constructed : {f : Sym} {ts vs : Trees} → HasShape theory.shapes Constructor f (count ts) → EvaluateAll theory ts vs → Evaluates theory (app f ts) (app f vs)
    reduced : {g : Sym} {ts : Trees} {v : Tree} (vs : Trees) → HasShape theory.shapes Destructor g (count ts) → EvaluateAll theory ts vs → Reduces theory g vs v → Evaluates theory (app g ts) v

  pub data EvaluateAll (theory : Theory) : Trees → Trees → Type 0 where
    no_terms : EvaluateAll theory none none
    a_term : {t v : Tree} {ts vs : Trees} → Evaluates theory t v → EvaluateAll theory ts vs → EvaluateAll theory (more t ts) (more v vs)

-- a message is what evaluates to something
abbrev pub IsMessage : Theory → Tree → Type 0
IsMessage theory t = (v : Tree) × Evaluates theory t v

-- two terms evaluate to one value
pub record AreEqual (theory : Theory) (t u : Tree) : Type 0 where
  pub value : Tree
  pub left : Evaluates theory t value
  pub right : Evaluates theory u value
