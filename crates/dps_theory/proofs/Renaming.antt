-- Evaluation under replaced names.
use Rattle.std.proofs.Common.{◌≡◌, ℕ, refl, sym, ◌∙◌, ap, subst}
use Rattle.dps_terms.specs.declared.Sym.{Sym}
use Rattle.dps_signature.specs.declared.SymKind.TheVariants.{Constructor, Destructor}
use Rattle.dps_terms.specs.Tree.{Leaf, public, private, var, ax, entry, rigid, Tree, Trees, leaf, IsAmong, StandsIn, below}
use Rattle.dps_terms.specs.Replace.{replace, replace_all, substitute, substitute_all, variables_to}
use Rattle.dps_signature.specs.Signature.{HasShape}
use Rattle.dps_terms.specs.Kinds.{AnySymbol, IsName, IsNoVariable}
use Rattle.dps_terms.proofs.Replacing.{replace_in_turn, replace_all_in_turn, replace_agrees, replace_all_agrees, replace_undone}
use Rattle.dps_terms.proofs.Building.{leaf_meets, count-replace_all}
use Rattle.dps_terms.specs.declared.PublicName.TheVariants.{Declared, At}
use Rattle.dps_theory.specs.Theory.{Theory, HasPlainRules, IsRuleLeaf}
use Rattle.dps_theory.specs.Evaluation.{Evaluates, EvaluateAll, Reduces, named, constructed, reduced, no_terms, a_term}
use Rattle.dps_theory.specs.Laws.{KeepsRules}

-- a leaf of a rule, after the substitution, under the replacement
leaf_in_turn : (f : Leaf → Tree) (by : ℕ → Tree) (x : Leaf) → (IsNoVariable x → f x ≡ leaf x) → replace f (variables_to by x) ≡ variables_to (λ n. replace f (by n)) x
leaf_in_turn f by (public n) h = h tt
leaf_in_turn f by (private n) h = h tt
leaf_in_turn f by (var n) h = refl
leaf_in_turn f by (ax n) h = h tt
leaf_in_turn f by (entry n) h = h tt
leaf_in_turn f by (rigid n) h = h tt

pub replace-substitute : (f : Leaf → Tree) (by : ℕ → Tree) (t : Tree) → ((x : Leaf) → StandsIn x t → IsNoVariable x → f x ≡ leaf x) → replace f (substitute by t) ≡ substitute (λ n. replace f (by n)) t
replace-substitute f by t h =
    replace_in_turn (variables_to by) f t
    ∙ replace_agrees (λ x. replace f (variables_to by x)) (variables_to (λ n. replace f (by n))) t (λ x k. leaf_in_turn f by x (h x k))

pub replace_all-substitute_all :
    (f : Leaf → Tree) (by : ℕ → Tree) (ts : Trees) → ((x : Leaf) → IsAmong (leaf x) ts → IsNoVariable x → f x ≡ leaf x)
    → replace_all f (substitute_all by ts) ≡ substitute_all (λ n. replace f (by n)) ts
replace_all-substitute_all f by ts h =
    replace_all_in_turn (variables_to by) f ts
    ∙ replace_all_agrees (λ x. replace f (variables_to by x)) (variables_to (λ n. replace f (by n))) ts (λ x k. leaf_in_turn f by x (h x k))

module _ (theory : Theory) (f : Leaf → Tree) (keeps : KeepsRules theory f) where
  pub replaced_reduct : (g : Sym) (vs : Trees) (v : Tree) → Reduces theory g vs v → Reduces theory g (replace_all f vs) (replace f v)
  replaced_reduct g vs v r = record {
    rule = r.rule;
    listed = r.listed;
    patterns = r.patterns;
    left = r.left;
    by = λ n. replace f (r.by n);
    matched = sym (replace_all-substitute_all f r.by r.patterns (λ x k. keeps.left r.rule r.listed x (subst (StandsIn x) (sym r.left) (below k)))) ∙ ap (replace_all f) r.matched;
    right = sym (replace-substitute f r.by r.rule.right (keeps.right r.rule r.listed)) ∙ ap (replace f) r.right;
  }

  module _ (names : (x : Leaf) → IsName x → Evaluates theory (f x) (f x)) where
    mutual
      pub replaced_evaluates : {t v : Tree} → Evaluates theory t v → Evaluates theory (replace f t) (replace f v)
      replaced_evaluates (named {x} h) = names x h
      replaced_evaluates (constructed {f = g} {ts} k a) = constructed (subst (HasShape theory.shapes Constructor g) (sym (count-replace_all f ts)) k) (replaced_evaluate a)
      replaced_evaluates (reduced {g} {ts} {v} vs k a r) = reduced (replace_all f vs) (subst (HasShape theory.shapes Destructor g) (sym (count-replace_all f ts)) k) (replaced_evaluate a) (replaced_reduct g vs v r)

      pub replaced_evaluate : {ts vs : Trees} → EvaluateAll theory ts vs → EvaluateAll theory (replace_all f ts) (replace_all f vs)
      replaced_evaluate no_terms = no_terms
      replaced_evaluate (a_term a r) = a_term (replaced_evaluates a) (replaced_evaluate r)

pub replaced_reflects :
    (theory : Theory) (f back : Leaf → Tree) (t w : Tree)
    → KeepsRules theory back
    → ((x : Leaf) → IsName x → Evaluates theory (back x) (back x))
    → ((x : Leaf) → StandsIn x t → replace back (f x) ≡ leaf x)
    → Evaluates theory (replace f t) w
    → Evaluates theory t (replace back w)
replaced_reflects theory f back t w keeps names undone e =
    subst (λ u. Evaluates theory u (replace back w)) (replace_undone f back t undone) (replaced_evaluates theory back keeps names e)

kept_leaf : (f : Leaf → Tree) → ((n : ℕ) → f (public (Declared n)) ≡ leaf (public (Declared n))) → (x : Leaf) → IsRuleLeaf x → IsNoVariable x → f x ≡ leaf x
kept_leaf f h (public (Declared n)) r v = h n
kept_leaf f h (public (At k)) r v = absurd r
kept_leaf f h (private n) r v = absurd r
kept_leaf f h (var n) r v = absurd v
kept_leaf f h (ax n) r v = absurd r
kept_leaf f h (entry n) r v = absurd r
kept_leaf f h (rigid n) r v = absurd r

pub plain_rules_kept : (theory : Theory) (f : Leaf → Tree) → HasPlainRules theory → ((n : ℕ) → f (public (Declared n)) ≡ leaf (public (Declared n))) → KeepsRules theory f
plain_rules_kept theory f p h = record {
  left = λ r l x s v. kept_leaf f h x (leaf_meets IsRuleLeaf AnySymbol (p.left r l) s) v;
  right = λ r l x s v. kept_leaf f h x (leaf_meets IsRuleLeaf AnySymbol (p.right r l) s) v;
}
