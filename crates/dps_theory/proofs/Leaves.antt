-- Where the leaves of a value come from: the term, or a right side.
use Rattle.std.proofs.Common.{◌≡◌, sym, subst, inl, inr}
use Rattle.std.specs.Prelude.{◌⊎◌}
use Rattle.dps_terms.specs.declared.Sym.{Sym}
use Rattle.dps_terms.specs.Tree.{Leaf, public, private, var, ax, entry, rigid, Tree, Trees, leaf, app, more, IsSubterm, IsAmong, StandsIn, IsStrictSubterm, itself, below, in_first, in_rest}
use Rattle.dps_terms.specs.Replace.{replace, variables_to}
use Rattle.dps_terms.specs.Kinds.{AnySymbol, IsNoVariable, IsClosed}
use Rattle.dps_terms.proofs.Subterms.{nested, nested_among}
use Rattle.dps_terms.proofs.Replacing.{keeps_among, subterm_of_instance}
use Rattle.dps_terms.proofs.Building.{leaf_meets}
use Rattle.dps_theory.specs.Theory.{Rule, Theory, HasRule, IsAccepted}
use Rattle.dps_theory.specs.Evaluation.{Evaluates, EvaluateAll, Reduces, named, constructed, reduced, no_terms, a_term}
use Rattle.dps_theory.proofs.Evaluating.{strict_of_app}

module _ (theory : Theory) (accepted : IsAccepted theory) (x : Leaf) where
  -- the leaf stands in the right side of a rule
  abbrev pub StandsInRule : Type 0
  StandsInRule = (r : Rule) × HasRule theory r × StandsIn x r.right

  module _ (g : Sym) (vs : Trees) (v : Tree) (r : Reduces theory g vs v) where
    -- a leaf that stands in what a leaf of the right side becomes
    at_leaf : (l : Leaf) → StandsIn l r.rule.right → StandsIn x (variables_to r.by l) → IsAmong (leaf x) vs ⊎ StandsInRule
    at_leaf (public n) k s = inr (r.rule, r.listed, nested s k)
    at_leaf (private n) k s = inr (r.rule, r.listed, nested s k)
    at_leaf (ax n) k s = inr (r.rule, r.listed, nested s k)
    at_leaf (entry n) k s = inr (r.rule, r.listed, nested s k)
    at_leaf (rigid n) k s = inr (r.rule, r.listed, nested s k)
    at_leaf (var n) k s = inl (by_bound (accepted.bounded r.rule r.listed))
      where
        by_bound : IsStrictSubterm r.rule.right r.rule.left ⊎ IsClosed r.rule.right → IsAmong (leaf x) vs
        by_bound (inl b) =
            let among = nested_among k (strict_of_app theory r.rule.right r.rule.left g r.patterns r.left b) in
            nested_among s (subst (IsAmong (r.by n)) r.matched (keeps_among (variables_to r.by) among))
        by_bound (inr c) = absurd (leaf_meets IsNoVariable AnySymbol c k)

    at_subterm : (s : Tree) → IsSubterm s r.rule.right → leaf x ≡ replace (variables_to r.by) s → IsAmong (leaf x) vs ⊎ StandsInRule
    at_subterm (leaf l) k e = at_leaf l k (subst (IsSubterm (leaf x)) e itself)
    at_subterm (app f ts) k e = absurd (cc)

    reduct_leaf : StandsIn x v → IsAmong (leaf x) vs ⊎ StandsInRule
    reduct_leaf s = elim (subterm_of_instance (variables_to r.by) (leaf x) r.rule.right (subst (StandsIn x) (sym r.right) s)) [
      | inl p ↦ at_subterm p.0 p.1 p.2
      | inr p ↦ at_leaf p.0 p.1 p.2
    ]

  among_app : (f : Sym) (vs : Trees) → StandsIn x (app f vs) → IsAmong (leaf x) vs
  among_app f vs (below k) = k

  among_more : (t : Tree) (ts : Trees) → IsAmong (leaf x) (more t ts) → StandsIn x t ⊎ IsAmong (leaf x) ts
  among_more t ts (in_first k) = inl k
  among_more t ts (in_rest k) = inr k

  in_app : (f : Sym) (ts : Trees) → IsAmong (leaf x) ts ⊎ StandsInRule → StandsIn x (app f ts) ⊎ StandsInRule
  in_app f ts = elim [ inl k ↦ inl (below k) | inr r ↦ inr r ]

  mutual
    pub leaf_of_value : {t v : Tree} → Evaluates theory t v → StandsIn x v → StandsIn x t ⊎ StandsInRule
    leaf_of_value (named h) s = inl s
    leaf_of_value (constructed {f} {ts} {vs} k a) s = in_app f ts (leaf_of_values a (among_app f vs s))
    leaf_of_value (reduced {g} {ts} {v} vs k a r) s = elim (reduct_leaf g vs v r s) [ inl m ↦ in_app g ts (leaf_of_values a m) | inr q ↦ inr q ]

    pub leaf_of_values : {ts vs : Trees} → EvaluateAll theory ts vs → IsAmong (leaf x) vs → IsAmong (leaf x) ts ⊎ StandsInRule
    leaf_of_values no_terms s = inl s
    leaf_of_values (a_term {t} {v} {ts} {vs} a r) s = elim (among_more v vs s) [
      | inl k ↦ elim (leaf_of_value a k) [ inl m ↦ inl (in_first m) | inr q ↦ inr q ]
      | inr k ↦ elim (leaf_of_values r k) [ inl m ↦ inl (in_rest m) | inr q ↦ inr q ]
    ]
