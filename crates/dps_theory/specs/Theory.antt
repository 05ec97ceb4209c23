-- Theories: rewrite rules by which destructors compute.
use Rattle.std.specs.Prelude.{◌≡◌, ◌⊎◌, ℕ, List, Contains, ⊤}
use Rattle.dps_signature.specs.declared.SymKind.TheVariants.{Destructor}
use Rattle.dps_terms.specs.declared.PublicName.{PublicName}
use Rattle.dps_terms.specs.declared.PublicName.TheVariants.{Declared, At}
use Rattle.dps_terms.specs.Tree.{Leaf, public, private, var, ax, entry, rigid, Tree, leaf, app, count, IsStrictSubterm}
use Rattle.dps_terms.specs.Replace.{substitute}
use Rattle.dps_signature.specs.Signature.{Shape, HasShape}
use Rattle.dps_terms.specs.Kinds.{IsBuiltOf, AnySymbol, IsClosed}
use Rattle.dps_signature.specs.Kinds.{IsConstructorTerm, AreConstructorTerms}

-- `left -> right`
pub record Rule : Type 0 where
  pub left : Tree
  pub right : Tree

-- the kind and the arity of each symbol, by its number, and the rules
pub record Theory : Type 0 where
  pub shapes : List Shape
  pub rules : List Rule

abbrev pub HasRule : Theory → Rule → Type 0
HasRule theory rule = Contains theory.rules rule

-- a destructor stands at the root
abbrev pub HasDestructorRoot : List Shape → Tree → Type 0
HasDestructorRoot shapes (leaf x) = ⊥
HasDestructorRoot shapes (app g ts) = HasShape shapes Destructor g (count ts)

-- below the root stand constructors alone
abbrev pub HasConstructorArguments : List Shape → Tree → Type 0
HasConstructorArguments shapes (leaf x) = ⊤
HasConstructorArguments shapes (app g ts) = AreConstructorTerms shapes ts

-- the right side is a strict subterm of the left side, or it is ground
abbrev pub IsBounded : Rule → Type 0
IsBounded r = IsStrictSubterm r.right r.left ⊎ IsClosed r.right

-- Where instances of the two left sides are equal, so are those of the right sides. The two substitutions are any two,
-- so that the rules count as renamed apart.
abbrev pub Agree : Rule → Rule → Type 0
Agree r q = (y z : ℕ → Tree) → substitute y r.left ≡ substitute z q.left → substitute y r.right ≡ substitute z q.right

-- The theories of the tool: subterm convergent, and without a choice.
pub record IsAccepted (theory : Theory) : Type 0 where
  -- the left root of each rule is a destructor
  pub root : (r : Rule) → HasRule theory r → HasDestructorRoot theory.shapes r.left
  -- no argument of a left side holds a destructor
  pub arguments : (r : Rule) → HasRule theory r → HasConstructorArguments theory.shapes r.left
  -- no right side holds a destructor
  pub constructed : (r : Rule) → HasRule theory r → IsConstructorTerm theory.shapes r.right
  -- each right side is a strict part of its left side, or ground
  pub bounded : (r : Rule) → HasRule theory r → IsBounded r
  -- rules that overlap agree
  pub agreeing : (r q : Rule) → HasRule theory r → HasRule theory q → Agree r q

-- what a rule of a file is written with: declared names and variables
abbrev pub IsDeclaredName : PublicName → Type 0
IsDeclaredName (Declared n) = ⊤
IsDeclaredName (At k) = ⊥

abbrev pub IsRuleLeaf : Leaf → Type 0
IsRuleLeaf (public n) = IsDeclaredName n
IsRuleLeaf (var n) = ⊤
IsRuleLeaf (private n) = ⊥
IsRuleLeaf (ax j) = ⊥
IsRuleLeaf (entry i) = ⊥
IsRuleLeaf (rigid n) = ⊥

-- no rule holds a private name, one of the attacker's own names, a handle, an entry or a rigid name
pub record HasPlainRules (theory : Theory) : Type 0 where
  pub left : (r : Rule) → HasRule theory r → IsBuiltOf IsRuleLeaf AnySymbol r.left
  pub right : (r : Rule) → HasRule theory r → IsBuiltOf IsRuleLeaf AnySymbol r.right
