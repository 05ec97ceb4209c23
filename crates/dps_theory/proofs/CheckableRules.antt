-- Rules that may be checked, rule by rule and leaf by leaf.
use Rattle.std.proofs.Common.{◌≡◌, ℕ, ◌+◌, ◌<◌, ◌≤◌, ◌^◌, List, length, Some, inl, inr, arith, subst}
use Rattle.std.specs.Prelude.{◌↔◌, All, Contains, slice_get}
use Rattle.std.proofs.lemmas.Bool.{cases_lt}
use Rattle.std.proofs.lemmas.Option.{none-some}
use Rattle.std.proofs.lemmas.List.Elements.{All-weaker, All-contains, All-contains_itself}
use Rattle.dps_terms.specs.Tree.{Leaf, public, private, var, ax, entry, rigid, Tree, leaf, app, StandsIn}
use Rattle.dps_terms.specs.Views.{view_of, arguments}
use Rattle.dps_signature.specs.Signature.{Signature}
use Rattle.dps_terms.specs.Kinds.{IsBuiltOf, AnySymbol}
use Rattle.dps_terms.proofs.Building.{built_weaker, built_of, leaf_meets}
use Rattle.dps_theory.specs.Theory.{Rule, IsRuleLeaf}
use Rattle.dps_theory.specs.Conditions.{IsRuleOver, IsPlainRule, HasNoProjection, AreCheckable}
use Rattle.dps_theory.specs.Overlaps.{HasSmallVariables}
use Rattle.dps_theory.specs.Projections.{projections, HasProjections}
use Rattle.dps_theory.specs.Checkable.{IsSmallRuleLeaf, IsSmallRuleView, IsCheckable, HasProjectionsOf}
use Rattle.dps_theory.proofs.Forms.{FirstArguments, first_all, built_each, built_one}

-- the leaves of a side, by what they are and by their numbers
abbrev pub HasSmallLeaves : Tree → Type 0
HasSmallLeaves t = IsBuiltOf IsSmallRuleLeaf AnySymbol t

is_rule_leaf : (x : Leaf) → IsSmallRuleLeaf x → IsRuleLeaf x
is_rule_leaf (public n) h = h
is_rule_leaf (var n) h = tt
is_rule_leaf (private n) h = absurd h
is_rule_leaf (ax j) h = absurd h
is_rule_leaf (entry i) h = absurd h
is_rule_leaf (rigid n) h = absurd h

small_leaf : (t : Tree) → ((n : ℕ) → StandsIn (var n) t → n < 2 ^ 32) → (x : Leaf) → StandsIn x t → IsRuleLeaf x → IsSmallRuleLeaf x
small_leaf t h (public n) k l = l
small_leaf t h (var n) k l = h n k
small_leaf t h (private n) k l = absurd l
small_leaf t h (ax j) k l = absurd l
small_leaf t h (entry i) k l = absurd l
small_leaf t h (rigid n) k l = absurd l

small_leaves : (t : Tree) → IsBuiltOf IsRuleLeaf AnySymbol t → ((n : ℕ) → StandsIn (var n) t → n < 2 ^ 32) → HasSmallLeaves t
small_leaves t b h =
    built_of IsSmallRuleLeaf AnySymbol t (λ x k. small_leaf t h x k (leaf_meets IsRuleLeaf AnySymbol b k)) (λ f ts k. tt)

rule_leaves : (t : Tree) → HasSmallLeaves t → IsBuiltOf IsRuleLeaf AnySymbol t
rule_leaves t b = built_weaker IsSmallRuleLeaf AnySymbol IsRuleLeaf t b is_rule_leaf

small_variable : (t : Tree) → HasSmallLeaves t → (n : ℕ) → StandsIn (var n) t → n < 2 ^ 32
small_variable t b n k = leaf_meets IsSmallRuleLeaf AnySymbol {x = var n} b k

-- rule by rule
module _ (signature : Signature) where
  over_of : (r : Rule) → IsCheckable signature (projections signature) r → IsRuleOver signature r
  over_of r h = (h.left.0, h.right.0)

  plain_of : (r : Rule) → IsCheckable signature (projections signature) r → IsPlainRule r
  plain_of r h = (rule_leaves r.left h.left.1, rule_leaves r.right h.right.1)

  small_of : (r : Rule) → IsCheckable signature (projections signature) r → HasSmallVariables r
  small_of r h n = elim [ inl k ↦ small_variable r.left h.left.1 n k | inr k ↦ small_variable r.right h.right.1 n k ]

  none_of : (r : Rule) → IsCheckable signature (projections signature) r → HasNoProjection signature r
  none_of r h = h.no_projection

  one_checkable : (r : Rule) → IsRuleOver signature r → IsPlainRule r → HasSmallVariables r → HasNoProjection signature r → IsCheckable signature (projections signature) r
  one_checkable r over plain small none = record {
    left = (over.0, small_leaves r.left plain.0 (λ n k. small n (inl k)));
    right = (over.1, small_leaves r.right plain.1 (λ n k. small n (inr k)));
    no_projection = none;
  }

  pub all_checkable : (rules : List Rule) → length rules < 2 ^ 24 → HasProjections signature → All (IsCheckable signature (projections signature)) rules ↔ AreCheckable signature rules
  all_checkable rules few there = (
    λ h. record {
      few = few;
      over = All-weaker (IsCheckable signature (projections signature)) (IsRuleOver signature) over_of rules h;
      plain = All-weaker (IsCheckable signature (projections signature)) IsPlainRule plain_of rules h;
      small = All-weaker (IsCheckable signature (projections signature)) HasSmallVariables small_of rules h;
      projections_there = there;
      no_projection = All-weaker (IsCheckable signature (projections signature)) (HasNoProjection signature) none_of rules h;
    },
    λ h. All-weaker (Contains rules) (IsCheckable signature (projections signature))
        (λ r k. one_checkable r (All-contains (IsRuleOver signature) rules r h.over k) (All-contains IsPlainRule rules r h.plain k) (All-contains HasSmallVariables rules r h.small k) (All-contains (HasNoProjection signature) rules r h.no_projection k)) rules (All-contains_itself rules),
  )

-- a root that is shown, and the arguments
shown_leaf : (x : Leaf) → IsSmallRuleView (view_of (leaf x)) → IsSmallRuleLeaf x
shown_leaf (public n) h = h
shown_leaf (var n) h = h
shown_leaf (private n) h = absurd h
shown_leaf (ax j) h = absurd h
shown_leaf (entry i) h = absurd h
shown_leaf (rigid n) h = absurd h

leaf_shown : (x : Leaf) → IsSmallRuleLeaf x → IsSmallRuleView (view_of (leaf x))
leaf_shown (public n) h = h
leaf_shown (var n) h = h
leaf_shown (private n) h = absurd h
leaf_shown (ax j) h = absurd h
leaf_shown (entry i) h = absurd h
leaf_shown (rigid n) h = absurd h

pub root_shown : (t : Tree) → HasSmallLeaves t → IsSmallRuleView (view_of t)
root_shown (leaf x) h = leaf_shown x h
root_shown (app f ts) h = tt

pub small_all : (t : Tree) (i : ℕ) → IsSmallRuleView (view_of t) → FirstArguments HasSmallLeaves t i → length (arguments t) ≤ i → HasSmallLeaves t
small_all (leaf x) i v h l = shown_leaf x v
small_all (app f ts) i v h l = (tt, built_each IsSmallRuleLeaf AnySymbol ts (first_all HasSmallLeaves (app f ts) i h l))

pub small_one : (t : Tree) (j : ℕ) (u : Tree) → slice_get (arguments t) j ≡ Some u → HasSmallLeaves t → HasSmallLeaves u
small_one (leaf x) j u e h = absurd (none-some u e)
small_one (app f ts) j u e h = built_one IsSmallRuleLeaf AnySymbol ts h.1 j u e

-- length by length
pub all_projections : (signature : Signature) → ((n : ℕ) → 2 ≤ n → n ≤ 8 → HasProjectionsOf signature n) → HasProjections signature
all_projections signature h = record {
  tuples = λ n f low high e. (h n low high f e).0;
  destructors = λ n f i low high e first last. (h n low high f e).1 i first last;
}

pub projections_of_length : (signature : Signature) (n : ℕ) → 2 ≤ n → n ≤ 8 → HasProjections signature → HasProjectionsOf signature n
projections_of_length signature n low high h f e = (h.tuples n f low high e, λ i first last. h.destructors n f i low high e first last)

-- one more number
pub up_to_next : (P : ℕ → Type 0) (a n : ℕ) → ((i : ℕ) → a ≤ i → i < n → P i) → P n → (i : ℕ) → a ≤ i → i < n + 1 → P i
up_to_next P a n h p i low l = elim (cases_lt i n) [ inl b ↦ h i low b | inr b ↦ (let e : n ≡ i = omega arith in subst P e p) ]
