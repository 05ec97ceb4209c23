-- What each form of term evaluates to, and in which way alone.
use Rattle.std.proofs.Common.{◌≡◌, ℕ, zero, suc, ◌+◌, List, [], ◌∷◌, length, refl, sym, ◌∙◌, ap, subst, inl, inr, arith, Some}
use Rattle.std.specs.Prelude.{◌↔◌, ◌⊎◌, slice_get}
use Rattle.dps_terms.specs.declared.Sym.{Sym}
use Rattle.dps_signature.specs.declared.SymKind.TheVariants.{Constructor, Destructor}
use Rattle.dps_terms.specs.Tree.{Leaf, public, private, var, ax, entry, rigid, Tree, Trees, leaf, app, none, more, trees, count}
use Rattle.dps_terms.specs.Replace.{substitute, substitute_all}
use Rattle.dps_signature.specs.Signature.{HasShape}
use Rattle.dps_terms.specs.Kinds.{IsName}
use Rattle.dps_theory.specs.Theory.{Rule, Theory, HasRule, IsAccepted, HasDestructorRoot}
use Rattle.dps_theory.specs.Evaluation.{Evaluates, EvaluateAll, Reduces, named, constructed, reduced, no_terms, a_term, IsMessage}
use Rattle.dps_theory.specs.LawsOfEvaluation.{IsLeafValue, LeavesEvaluate, ArgumentsEvaluate, ConstructorsEvaluate, DestructorsEvaluate, UnknownSymbolsHaveNoValue}
use Rattle.dps_theory.proofs.Evaluating.{one_kind, reduces_left}

module _ (theory : Theory) where
  -- leaves
  name_value : (x : Leaf) → IsName x → IsLeafValue x (leaf x)
  name_value (public n) h = refl
  name_value (private n) h = refl
  name_value (rigid n) h = refl
  name_value (var n) h = absurd h
  name_value (ax j) h = absurd h
  name_value (entry i) h = absurd h

  pub leaf_value : (x : Leaf) (v : Tree) → Evaluates theory (leaf x) v → IsLeafValue x v
  leaf_value x v (named h) = name_value x h

  value_of_leaf : (x : Leaf) (v : Tree) → IsLeafValue x v → Evaluates theory (leaf x) v
  value_of_leaf (public n) v e = subst (Evaluates theory (leaf (public n))) (sym e) (named tt)
  value_of_leaf (private n) v e = subst (Evaluates theory (leaf (private n))) (sym e) (named tt)
  value_of_leaf (rigid n) v e = subst (Evaluates theory (leaf (rigid n))) (sym e) (named tt)
  value_of_leaf (var n) v e = absurd e
  value_of_leaf (ax j) v e = absurd e
  value_of_leaf (entry i) v e = absurd e

  -- arguments
  pub none_evaluate : (vs : Trees) → EvaluateAll theory none vs → vs ≡ none
  none_evaluate vs no_terms = refl

  pub first_evaluates : (t : Tree) (ts vs : Trees) → EvaluateAll theory (more t ts) vs → (v : Tree) × (ws : Trees) × (vs ≡ more v ws) × Evaluates theory t v × EvaluateAll theory ts ws
  first_evaluates t ts vs (a_term {v = v} {vs = ws} a r) = (v, ws, refl, a, r)

  one_by_one :
      (ts vs : List Tree) → EvaluateAll theory (trees ts) (trees vs)
      → (length ts ≡ length vs) × ((i : ℕ) (t v : Tree) → slice_get ts i ≡ Some t → slice_get vs i ≡ Some v → Evaluates theory t v)
  one_by_one [] [] e = (refl, λ i t v h k. cc)
  one_by_one [] (v ∷ vs) e = let d = none_evaluate (trees (v ∷ vs)) e in cc
  one_by_one (t ∷ ts) [] e = let d = (first_evaluates t (trees ts) none e).2 in cc
  one_by_one (t ∷ ts) (v ∷ vs) e =
      let p = first_evaluates t (trees ts) (trees (v ∷ vs)) e in
      let parts : more v (trees vs) ≡ more p.0 p.1 = p.2 in
      let first : v ≡ p.0 = cc in
      let others : trees vs ≡ p.1 = cc in
      let rest = one_by_one ts vs (subst (EvaluateAll theory (trees ts)) (sym others) p.4) in
      (ap suc rest.0, each (subst (Evaluates theory t) (sym first) p.3) rest.1)
    where
      each :
          Evaluates theory t v → ((i : ℕ) (u w : Tree) → slice_get ts i ≡ Some u → slice_get vs i ≡ Some w → Evaluates theory u w)
          → (i : ℕ) (u w : Tree) → slice_get (t ∷ ts) i ≡ Some u → slice_get (v ∷ vs) i ≡ Some w → Evaluates theory u w
      each a rest zero u w h k =
          let t_is : t ≡ u = cc in let v_is : v ≡ w = cc in subst (Evaluates theory u) v_is (subst (λ s. Evaluates theory s v) t_is a)
      each a rest (suc i) u w h k = rest i u w h k

  all_of_each :
      (ts vs : List Tree) → length ts ≡ length vs → ((i : ℕ) (t v : Tree) → slice_get ts i ≡ Some t → slice_get vs i ≡ Some v → Evaluates theory t v)
      → EvaluateAll theory (trees ts) (trees vs)
  all_of_each [] [] e h = no_terms
  all_of_each [] (v ∷ vs) e h = absurd (omega (arith, e))
  all_of_each (t ∷ ts) [] e h = absurd (omega (arith, e))
  all_of_each (t ∷ ts) (v ∷ vs) e h = a_term (h 0 t v refl refl) (all_of_each ts vs (omega (arith, e)) (λ i. h (suc i)))

  -- symbols
  pub app_evaluates :
      (f : Sym) (ts : Trees) (v : Tree) → Evaluates theory (app f ts) v
      → (HasShape theory.shapes Constructor f (count ts) × ((vs : Trees) × EvaluateAll theory ts vs × (v ≡ app f vs))) ⊎ (HasShape theory.shapes Destructor f (count ts) × ((vs : Trees) × EvaluateAll theory ts vs × Reduces theory f vs v))
  app_evaluates f ts v (constructed {vs = vs} k a) = inl (k, (vs, a, refl))
  app_evaluates f ts v (reduced vs k a r) = inr (k, (vs, a, r))

  pub constructor_value : (f : Sym) (ts : Trees) (v : Tree) → HasShape theory.shapes Constructor f (count ts) → Evaluates theory (app f ts) v → (vs : Trees) × EvaluateAll theory ts vs × (v ≡ app f vs)
  constructor_value f ts v k e =
      elim (app_evaluates f ts v e) [
        | inl c ↦ c.1
        | inr d ↦ absurd (one_kind theory.shapes f (count ts) (count ts) k d.0)
      ]

  pub destructor_value :
      (g : Sym) (ts : Trees) (v : Tree) → HasShape theory.shapes Destructor g (count ts) → Evaluates theory (app g ts) v
      → (vs : Trees) × EvaluateAll theory ts vs × Reduces theory g vs v
  destructor_value g ts v k e =
      elim (app_evaluates g ts v e) [
        | inl c ↦ absurd (one_kind theory.shapes g (count ts) (count ts) c.0 k)
        | inr d ↦ d.1
      ]

  -- a rule of which an instance is the destructor over the values
  pub reduces_by :
      (g : Sym) (vs : Trees) (r : Rule) → HasRule theory r → HasDestructorRoot theory.shapes r.left → (z : ℕ → Tree) → substitute z r.left ≡ app g vs
      → Reduces theory g vs (substitute z r.right)
  reduces_by g vs r listed root z e = go r.left refl root
    where
      go : (l : Tree) → r.left ≡ l → HasDestructorRoot theory.shapes l → Reduces theory g vs (substitute z r.right)
      go (leaf x) d h = absurd h
      go (app f ps) d h =
          let same : app f (substitute_all z ps) ≡ app g vs = ap (substitute z) (sym d) ∙ e in
          let f_is : f ≡ g = cc in
          record {
            rule = r;
            listed = listed;
            patterns = ps;
            left = d ∙ ap (λ s. app s ps) f_is;
            by = z;
            matched = (cc);
            right = refl;
          }

pub leaves_evaluate : LeavesEvaluate
leaves_evaluate = λ theory x v. (leaf_value theory x v, value_of_leaf theory x v)

pub arguments_evaluate : ArgumentsEvaluate
arguments_evaluate = λ theory ts vs. (one_by_one theory ts vs, λ h. all_of_each theory ts vs h.0 h.1)

pub constructors_evaluate : ConstructorsEvaluate
constructors_evaluate = λ theory f ts v k.
    (constructor_value theory f ts v k, λ h. subst (Evaluates theory (app f ts)) (sym h.2) (constructed k h.1))

pub destructors_evaluate : DestructorsEvaluate
destructors_evaluate = λ theory g ts v accepted k. (
  λ e.
      let d = destructor_value theory g ts v k e in
      let r = d.2 in
      (d.0, d.1, (r.rule, r.listed, (r.by, reduces_left theory g d.0 v r, r.right))),
  λ h.
      let rule = h.2.0 in
      let z = h.2.2.0 in
      reduced h.0 k h.1 (subst (Reduces theory g h.0) h.2.2.2 (reduces_by theory g h.0 rule h.2.1 (accepted.root rule h.2.1) z h.2.2.1)),
)

pub unknown_symbols_have_no_value : UnknownSymbolsHaveNoValue
unknown_symbols_have_no_value = λ theory f ts c d m.
    elim (app_evaluates theory f ts m.0 m.1) [ inl h ↦ c h.0 | inr h ↦ d h.0 ]
