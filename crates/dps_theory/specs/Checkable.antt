-- What rules have to meet before they are checked, rule by rule and length by length.
use Rattle.std.specs.Prelude.{◌≡◌, ◌≢◌, ◌≤◌, ◌<◌, ◌^◌, ℕ, List, All, Some, ⊤}
use Rattle.dps_signature.specs.declared.SymKind.TheVariants.{Constructor, Destructor}
use Rattle.dps_terms.specs.declared.borrowed.TermView.{TermView}
use Rattle.dps_terms.specs.declared.borrowed.TermView.TheVariants.{App, Public, Private, Var, Ax, Entry, Rigid}
use Rattle.dps_terms.specs.Tree.{Leaf, public, private, var, ax, entry, rigid, Tree}
use Rattle.dps_signature.specs.Signature.{Signature, HasShape, shapes}
use Rattle.dps_signature.specs.Names.{tuple_name, projection_name, symbol_named}
use Rattle.dps_terms.specs.Kinds.{IsBuiltOf, AnySymbol}
use Rattle.dps_signature.specs.Kinds.{IsOver}
use Rattle.dps_theory.specs.Theory.{Rule, IsDeclaredName}
use Rattle.dps_theory.specs.Judging.{root_of}

-- a declared name, or a variable with a number below 2^32
abbrev pub IsSmallRuleLeaf : Leaf → Type 0
IsSmallRuleLeaf (public n) = IsDeclaredName n
IsSmallRuleLeaf (var n) = n < 2 ^ 32
IsSmallRuleLeaf (private n) = ⊥
IsSmallRuleLeaf (ax j) = ⊥
IsSmallRuleLeaf (entry i) = ⊥
IsSmallRuleLeaf (rigid n) = ⊥

-- a symbol or such a leaf is shown
abbrev pub IsSmallRuleView : TermView → Type 0
IsSmallRuleView (App f) = ⊤
IsSmallRuleView (Public n) = IsDeclaredName n
IsSmallRuleView (Var n) = n < 2 ^ 32
IsSmallRuleView (Private n) = ⊥
IsSmallRuleView (Ax j) = ⊥
IsSmallRuleView (Entry i) = ⊥
IsSmallRuleView (Rigid n) = ⊥

-- over the signature, of such leaves
abbrev pub IsSide : Signature → Tree → Type 0
IsSide signature t = IsOver signature t × IsBuiltOf IsSmallRuleLeaf AnySymbol t

-- both sides are such, and no projection stands at the left root
pub record IsCheckable (signature : Signature) (projections : List Rule) (rule : Rule) : Type 0 where
  pub left : IsSide signature rule.left
  pub right : IsSide signature rule.right
  pub no_projection : All (λ p. root_of p.left ≢ root_of rule.left) projections

-- the i-th projection of the tuples of length n is there
abbrev pub HasDestructor : Signature → ℕ → ℕ → Type 0
HasDestructor signature n i =
    (g : ℕ) × (symbol_named signature (projection_name i n) ≡ Some g) × HasShape (shapes signature) Destructor (record { number = g }) 1

abbrev pub HasDestructors : Signature → ℕ → Type 0
HasDestructors signature n = (i : ℕ) → 1 ≤ i → i ≤ n → HasDestructor signature n i

-- where the tuples of length n have a symbol, it is a constructor of that arity, with its projections
abbrev pub HasProjectionsOf : Signature → ℕ → Type 0
HasProjectionsOf signature n =
    (f : ℕ) → symbol_named signature (tuple_name n) ≡ Some f
    → HasShape (shapes signature) Constructor (record { number = f }) n × HasDestructors signature n
