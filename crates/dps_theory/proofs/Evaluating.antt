-- Evaluation gives at most one value, and leaves what holds no destructor.
use Rattle.std.proofs.Common.{◌≡◌, ℕ, ◌+◌, refl, sym, ◌∙◌, ap, subst, inl, inr}
use Rattle.std.specs.Prelude.{List, Option, Some, ◌⊎◌}
use Rattle.std.specs.Option.{option_map}
use Rattle.dps_terms.specs.declared.Sym.{Sym}
use Rattle.dps_signature.specs.declared.SymKind.{SymKind}
use Rattle.dps_signature.specs.declared.SymKind.TheVariants.{Constructor, Destructor}
use Rattle.dps_terms.specs.Tree.{Leaf, public, private, var, ax, entry, rigid, Tree, Trees, leaf, app, none, more, count, IsAmong, StandsIn, IsStrictSubterm, itself}
use Rattle.dps_terms.specs.Tree.{below, in_first, in_rest, strictly}
use Rattle.dps_terms.specs.Replace.{substitute, substitute_all, variables_to}
use Rattle.dps_signature.specs.Signature.{Shape, HasShape}
use Rattle.dps_terms.specs.Kinds.{AreBuiltOf, IsName, AnyLeaf, AnySymbol, IsNoVariable, IsClosed}
use Rattle.dps_signature.specs.Kinds.{IsPlain, IsConstructorTerm}
use Rattle.dps_terms.proofs.Subterms.{nested_among}
use Rattle.dps_terms.proofs.Replacing.{keeps_among}
use Rattle.dps_terms.proofs.Building.{leaf_meets, built_among, count-replace_all}
use Rattle.dps_theory.specs.Theory.{Theory, IsAccepted, HasPlainRules, IsRuleLeaf}
use Rattle.dps_theory.specs.Evaluation.{Evaluates, EvaluateAll, Reduces, named, constructed, reduced, no_terms, a_term}

pub one_kind : (shapes : List Shape) (f : Sym) (n m : ℕ) → HasShape shapes Constructor f n → HasShape shapes Destructor f m → ⊥
one_kind shapes f n m k l =
    let e : ◌≡◌ {A = Option SymKind} (Some Constructor) (Some Destructor) = ap (option_map (λ s. s.kind)) (sym k ∙ l) in cc

pub reduces_left : (theory : Theory) (g : Sym) (vs : Trees) (v : Tree) → (r : Reduces theory g vs v) → substitute r.by r.rule.left ≡ app g vs
reduces_left theory g vs v r = ap (substitute r.by) r.left ∙ ap (app g) r.matched

module _ (theory : Theory) (accepted : IsAccepted theory) where
  pub reduces_once : (g : Sym) (vs ws : Trees) (v w : Tree) → vs ≡ ws → Reduces theory g vs v → Reduces theory g ws w → v ≡ w
  reduces_once g vs ws v w e r q =
      sym r.right
      ∙ (accepted.agreeing r.rule q.rule r.listed q.listed r.by q.by (reduces_left theory g vs v r ∙ (ap (app g) e ∙ sym (reduces_left theory g ws w q))) ∙ q.right)

  mutual
    pub evaluates_once : {t v w : Tree} → Evaluates theory t v → Evaluates theory t w → v ≡ w
    evaluates_once (named h) (named k) = refl
    evaluates_once (constructed {f} k a) (constructed l b) = ap (app f) (evaluate_once a b)
    evaluates_once (constructed {f} {ts} k a) (reduced ws l b q) = absurd (one_kind theory.shapes f (count ts) (count ts) k l)
    evaluates_once (reduced {g} {ts} vs k a r) (constructed l b) = absurd (one_kind theory.shapes g (count ts) (count ts) l k)
    evaluates_once (reduced {g} {ts} {v} vs k a r) (reduced {v = w} ws l b q) = reduces_once g vs ws v w (evaluate_once a b) r q

    pub evaluate_once : {ts vs ws : Trees} → EvaluateAll theory ts vs → EvaluateAll theory ts ws → vs ≡ ws
    evaluate_once no_terms no_terms = refl
    evaluate_once (a_term a r) (a_term b q) = λ i. more (evaluates_once a b i) (evaluate_once r q i)

module _ (theory : Theory) where
  mutual
    pub plain_evaluates : (t : Tree) → IsPlain theory.shapes t → Evaluates theory t t
    plain_evaluates (leaf x) p = named p
    plain_evaluates (app f ts) p = constructed p.0 (plain_evaluate ts p.1)

    pub plain_evaluate : (ts : Trees) → AreBuiltOf IsName (HasShape theory.shapes Constructor) ts → EvaluateAll theory ts ts
    plain_evaluate none p = no_terms
    plain_evaluate (more t ts) p = a_term (plain_evaluates t p.0) (plain_evaluate ts p.1)

  mutual
    pub plain_alone : {t v : Tree} → Evaluates theory t v → IsPlain theory.shapes t → v ≡ t
    plain_alone (named h) p = refl
    plain_alone (constructed {f} k a) p = ap (app f) (plain_all_alone a p.1)
    plain_alone (reduced {g} {ts} vs k a r) p = absurd (one_kind theory.shapes g (count ts) (count ts) p.0 k)

    pub plain_all_alone : {ts vs : Trees} → EvaluateAll theory ts vs → AreBuiltOf IsName (HasShape theory.shapes Constructor) ts → vs ≡ ts
    plain_all_alone no_terms p = refl
    plain_all_alone (a_term a r) p = λ i. more (plain_alone a p.0 i) (plain_all_alone r p.1 i)

  pub count-evaluated : {ts vs : Trees} → EvaluateAll theory ts vs → count vs ≡ count ts
  count-evaluated no_terms = refl
  count-evaluated (a_term a r) = ap (λ n. 1 + n) (count-evaluated r)

module _ (theory : Theory) where
  -- an instance of a constructor term is plain where its variables are
  mutual
    pub instance_plain : (z : ℕ → Tree) (t : Tree) → IsConstructorTerm theory.shapes t → ((x : Leaf) → StandsIn x t → IsPlain theory.shapes (variables_to z x)) → IsPlain theory.shapes (substitute z t)
    instance_plain z (leaf x) c h = h x itself
    instance_plain z (app f ts) c h = (subst (HasShape theory.shapes Constructor f) (sym (count-replace_all (variables_to z) ts)) c.0, instances_plain z ts c.1 (λ x k. h x (below k)))

    pub instances_plain :
        (z : ℕ → Tree) (ts : Trees) → AreBuiltOf AnyLeaf (HasShape theory.shapes Constructor) ts
        → ((x : Leaf) → IsAmong (leaf x) ts → IsPlain theory.shapes (variables_to z x))
        → AreBuiltOf IsName (HasShape theory.shapes Constructor) (substitute_all z ts)
    instances_plain z none c h = tt
    instances_plain z (more t ts) c h = (instance_plain z t c.0 (λ x k. h x (in_first k)), instances_plain z ts c.1 (λ x k. h x (in_rest k)))

  abbrev ArePlain : Trees → Type 0
  ArePlain vs = AreBuiltOf IsName (HasShape theory.shapes Constructor) vs

  -- a variable of the patterns has a plain tree where the patterns' instances are plain
  bound_plain : (by : ℕ → Tree) (ps vs : Trees) (n : ℕ) → substitute_all by ps ≡ vs → ArePlain vs → IsAmong (leaf (var n)) ps → IsPlain theory.shapes (by n)
  bound_plain by ps vs n e p k = built_among IsName (HasShape theory.shapes Constructor) p (subst (IsAmong (by n)) e (keeps_among (variables_to by) k))

  pub strict_of_app : (u t : Tree) (g : Sym) (ts : Trees) → t ≡ app g ts → IsStrictSubterm u t → IsAmong u ts
  strict_of_app u t g ts e k = parts ts (subst (IsStrictSubterm u) e k)
    where
      parts : (ts : Trees) → IsStrictSubterm u (app g ts) → IsAmong u ts
      parts ts (strictly k) = k

  module _ (accepted : IsAccepted theory) (plain : HasPlainRules theory) where
    -- what a leaf of the right side becomes
    right_leaf : (g : Sym) (vs : Trees) (v : Tree) (r : Reduces theory g vs v) → ArePlain vs → (x : Leaf) → StandsIn x r.rule.right → IsPlain theory.shapes (variables_to r.by x)
    right_leaf g vs v r p x k =
        at_leaf x k (leaf_meets IsRuleLeaf AnySymbol (plain.right r.rule r.listed) k) (accepted.bounded r.rule r.listed)
      where
        at_leaf : (x : Leaf) → StandsIn x r.rule.right → IsRuleLeaf x → IsStrictSubterm r.rule.right r.rule.left ⊎ IsClosed r.rule.right → IsPlain theory.shapes (variables_to r.by x)
        at_leaf (public n) k h b = tt
        at_leaf (private n) k h b = absurd h
        at_leaf (ax n) k h b = absurd h
        at_leaf (entry n) k h b = absurd h
        at_leaf (rigid n) k h b = absurd h
        at_leaf (var n) k h (inl s) = bound_plain r.by r.patterns vs n r.matched p (nested_among k (strict_of_app r.rule.right r.rule.left g r.patterns r.left s))
        at_leaf (var n) k h (inr c) = absurd (leaf_meets IsNoVariable AnySymbol c k)

    pub reduct_plain : (g : Sym) (vs : Trees) (v : Tree) → Reduces theory g vs v → ArePlain vs → IsPlain theory.shapes v
    reduct_plain g vs v r p =
        subst (IsPlain theory.shapes) r.right (instance_plain r.by r.rule.right (accepted.constructed r.rule r.listed) (right_leaf g vs v r p))

    mutual
      pub value_plain : {t v : Tree} → Evaluates theory t v → IsPlain theory.shapes v
      value_plain (named h) = h
      value_plain (constructed {f} k a) = (subst (HasShape theory.shapes Constructor f) (sym (count-evaluated theory a)) k, values_plain a)
      value_plain (reduced {g} {ts} {v} vs k a r) = reduct_plain g vs v r (values_plain a)

      pub values_plain : {ts vs : Trees} → EvaluateAll theory ts vs → ArePlain vs
      values_plain no_terms = tt
      values_plain (a_term a r) = (value_plain a, values_plain r)
