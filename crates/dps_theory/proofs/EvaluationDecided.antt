-- Under an accepted theory evaluation is decided.
use Rattle.std.proofs.Common.{◌≡◌, ℕ, zero, suc, ◌+◌, ◌<◌, ◌≤◌, List, [], ◌∷◌, length, Some, refl, sym, ◌∙◌, ap, arith, subst, inl, inr}
use Rattle.std.specs.Prelude.{◌⊎◌, slice_get}
use Rattle.std.proofs.lemmas.Bool.{cases_lt}
use Rattle.std.proofs.lemmas.List.Elements.{All-nil, All-cons, All-head}
use Rattle.dps_terms.specs.declared.Sym.{Sym}
use Rattle.dps_signature.specs.declared.SymKind.TheVariants.{Constructor, Destructor}
use Rattle.dps_terms.specs.Tree.{Leaf, public, private, var, ax, entry, rigid, Tree, Trees, leaf, app, none, more, count}
use Rattle.dps_terms.specs.Replace.{substitute, substitute_all, variables_to}
use Rattle.dps_terms.specs.Bindings.{image}
use Rattle.dps_signature.specs.Signature.{HasShape}
use Rattle.dps_terms.specs.Kinds.{AreBuiltOf, AnySymbol, IsName, IsNoVariable, IsClosed}
use Rattle.dps_terms.proofs.Building.{built_among, closed_stays}
use Rattle.dps_terms.proofs.Replacing.{keeps_among}
use Rattle.dps_unify.proofs.Deciding.{unifiers_are_decided}
use Rattle.dps_theory.specs.Theory.{Rule, Theory, HasRule, IsAccepted}
use Rattle.dps_theory.specs.Evaluation.{Evaluates, EvaluateAll, Reduces, named, constructed, reduced, no_terms, a_term, IsMessage, AreEqual}
use Rattle.dps_theory.specs.LawsOfEvaluation.{EvaluationIsDecided, EqualityIsDecided}
use Rattle.dps_theory.proofs.Evaluating.{evaluates_once, evaluate_once, strict_of_app, reduces_left}
use Rattle.dps_theory.proofs.FormsOfTerms.{leaf_value, none_evaluate, first_evaluates, constructor_value, destructor_value, app_evaluates, reduces_by}
use Rattle.dps_theory.proofs.Accepting.{contained, one_there, same_element}
use Rattle.dps_theory.proofs.Faults.{listed_there}
use Rattle.dps_theory.proofs.RulesDecided.{equal_or, has_shape}

module _ (theory : Theory) (accepted : IsAccepted theory) where
  -- values hold no variable
  reduct_closed : (g : Sym) (vs : Trees) (v : Tree) → Reduces theory g vs v → AreBuiltOf IsNoVariable AnySymbol vs → IsClosed v
  reduct_closed g vs v r h =
      subst IsClosed r.right
      (elim (accepted.bounded r.rule r.listed) [
        | inl s ↦
            let among = strict_of_app theory r.rule.right r.rule.left g r.patterns r.left s in
            built_among IsNoVariable AnySymbol (subst (AreBuiltOf IsNoVariable AnySymbol) (sym r.matched) h) (keeps_among (variables_to r.by) among)
        | inr c ↦ subst IsClosed (sym (closed_stays r.by r.rule.right c)) c
      ])

  name_closed : (x : Leaf) → IsName x → IsNoVariable x
  name_closed (public n) h = tt
  name_closed (private n) h = tt
  name_closed (rigid n) h = tt
  name_closed (var n) h = h
  name_closed (ax j) h = tt
  name_closed (entry i) h = tt

  mutual
    value_closed : {t v : Tree} → Evaluates theory t v → IsClosed v
    value_closed (named {x} h) = name_closed x h
    value_closed (constructed k a) = (tt, values_closed a)
    value_closed (reduced {g} {v = v} vs k a r) = reduct_closed g vs v r (values_closed a)

    values_closed : {ts vs : Trees} → EvaluateAll theory ts vs → AreBuiltOf IsNoVariable AnySymbol vs
    values_closed no_terms = tt
    values_closed (a_term a r) = (value_closed a, values_closed r)

  -- whether a rule fits values
  module _ (g : Sym) (vs : Trees) (closed : AreBuiltOf IsNoVariable AnySymbol vs) where
    abbrev Fits : Rule → Type 0
    Fits r = (z : ℕ → Tree) × (substitute z r.left ≡ app g vs)

    fits_or : (r : Rule) → Fits r ⊎ (Fits r → ⊥)
    fits_or r =
        elim (unifiers_are_decided [] ((r.left, app g vs) ∷ [])) [
          | inl u ↦
              let same = All-head (λ (p : Tree × Tree). substitute (image u.0) p.0 ≡ substitute (image u.0) p.1) (r.left, app g vs) [] u.1.unifies in
              inl (image u.0, same ∙ closed_stays (image u.0) (app g vs) (tt, closed))
          | inr never ↦ inr (λ f.
              never f.0
              (All-cons (λ (p : Tree × Tree). substitute f.0 p.0 ≡ substitute f.0 p.1) (r.left, app g vs) []
              (f.1 ∙ sym (closed_stays f.0 (app g vs) (tt, closed)))
              (All-nil (λ (p : Tree × Tree). substitute f.0 p.0 ≡ substitute f.0 p.1))))
        ]

    -- the first rules
    first_fits : (n : ℕ) → n ≤ length theory.rules → ((r : Rule) × HasRule theory r × Fits r) ⊎ ((k : ℕ) (r : Rule) → k < n → slice_get theory.rules k ≡ Some r → Fits r → ⊥)
    first_fits zero l = inr (λ k r b e f. absurd (omega arith))
    first_fits (suc n) l =
        elim (first_fits n (omega arith)) [
          | inl found ↦ inl found
          | inr never ↦
              let w = one_there theory.rules n (omega arith) in
              elim (fits_or w.0) [
                | inl f ↦ inl (w.0, listed_there theory.rules n w.0 w.1, f)
                | inr other ↦ inr (λ k r b e f.
                    elim (cases_lt k n) [
                      | inl o ↦ never k r o e f
                      | inr o ↦
                          let d : k ≡ n = omega arith in
                          other (subst Fits (sym (same_element theory.rules n w.0 r w.1 (ap (slice_get theory.rules) (sym d) ∙ e))) f)
                    ])
              ]
        ]

    reduces_or : ((v : Tree) × Reduces theory g vs v) ⊎ ((v : Tree) → Reduces theory g vs v → ⊥)
    reduces_or =
        elim (first_fits (length theory.rules) (omega arith)) [
          | inl found ↦
              let r = found.0 in
              let z = found.2.0 in
              inl (substitute z r.right, reduces_by theory g vs r found.1 (accepted.root r found.1) z found.2.1)
          | inr never ↦ inr (λ v r.
              let c = contained theory.rules r.rule r.listed in
              never c.0 r.rule (within theory.rules c.0 r.rule c.1) c.1 (r.by, reduces_left theory g vs v r))
        ]
      where
        within : (rules : List Rule) (k : ℕ) (r : Rule) → slice_get rules k ≡ Some r → k < length rules
        within [] k r e = cc
        within (q ∷ rules) zero r e = omega arith
        within (q ∷ rules) (suc k) r e = omega (arith, within rules k r e)

  -- whether a term has a value
  leaf_or : (x : Leaf) → IsMessage theory (leaf x) ⊎ (IsMessage theory (leaf x) → ⊥)
  leaf_or (public n) = inl (leaf (public n), named tt)
  leaf_or (private n) = inl (leaf (private n), named tt)
  leaf_or (rigid n) = inl (leaf (rigid n), named tt)
  leaf_or (var n) = inr (λ m. leaf_value theory (var n) m.0 m.1)
  leaf_or (ax j) = inr (λ m. leaf_value theory (ax j) m.0 m.1)
  leaf_or (entry i) = inr (λ m. leaf_value theory (entry i) m.0 m.1)

  destructor_or : (f : Sym) (ts vs : Trees) → EvaluateAll theory ts vs → HasShape theory.shapes Destructor f (count ts) → IsMessage theory (app f ts) ⊎ (IsMessage theory (app f ts) → ⊥)
  destructor_or f ts vs a k =
      elim (reduces_or f vs (values_closed a)) [
        | inl r ↦ inl (r.0, reduced vs k a r.1)
        | inr never ↦ inr (λ m.
            let d = destructor_value theory f ts m.0 k m.1 in
            never m.0 (subst (λ ws. Reduces theory f ws m.0) (evaluate_once theory accepted d.1 a) d.2))
      ]

  arguments_of : (f : Sym) (ts : Trees) (v : Tree) → Evaluates theory (app f ts) v → (vs : Trees) × EvaluateAll theory ts vs
  arguments_of f ts v e = elim (app_evaluates theory f ts v e) [ inl c ↦ (c.1.0, c.1.1) | inr d ↦ (d.1.0, d.1.1) ]

  mutual
    pub message_or : (t : Tree) → IsMessage theory t ⊎ (IsMessage theory t → ⊥)
    message_or (leaf x) = leaf_or x
    message_or (app f ts) =
        elim (messages_or ts) [
          | inr never ↦ inr (λ m. let a = arguments_of f ts m.0 m.1 in never a)
          | inl a ↦ elim (has_shape theory.shapes Constructor f (count ts)) [
            | inl k ↦ inl (app f a.0, constructed k a.1)
            | inr no_constructor ↦ elim (has_shape theory.shapes Destructor f (count ts)) [
              | inl k ↦ destructor_or f ts a.0 a.1 k
              | inr no_destructor ↦ inr (λ m.
                  elim (app_evaluates theory f ts m.0 m.1) [ inl c ↦ no_constructor c.0 | inr d ↦ no_destructor d.0 ])
            ]
          ]
        ]

    messages_or : (ts : Trees) → ((vs : Trees) × EvaluateAll theory ts vs) ⊎ (((vs : Trees) × EvaluateAll theory ts vs) → ⊥)
    messages_or none = inl (none, no_terms)
    messages_or (more t ts) =
        elim (message_or t) [
          | inr never ↦ inr (λ m. let p = first_evaluates theory t ts m.0 m.1 in never (p.0, p.3))
          | inl a ↦ elim (messages_or ts) [
            | inr never ↦ inr (λ m. let p = first_evaluates theory t ts m.0 m.1 in never (p.1, p.4))
            | inl b ↦ inl (more a.0 b.0, a_term a.1 b.1)
          ]
        ]

  equality_or : (t u : Tree) → AreEqual theory t u ⊎ (AreEqual theory t u → ⊥)
  equality_or t u =
      elim (message_or t) [
        | inr never ↦ inr (λ e. never (e.value, e.left))
        | inl m ↦ elim (message_or u) [
          | inr never ↦ inr (λ e. never (e.value, e.right))
          | inl n ↦ elim (equal_or m.0 n.0) [
            | inl d ↦ inl (record { value = m.0; left = m.1; right = subst (Evaluates theory u) (sym d) n.1 })
            | inr other ↦ inr (λ e. other (evaluates_once theory accepted m.1 e.left ∙ sym (evaluates_once theory accepted n.1 e.right)))
          ]
        ]
      ]

pub evaluation_is_decided : EvaluationIsDecided
evaluation_is_decided = λ theory t accepted. message_or theory accepted t

pub equality_is_decided : EqualityIsDecided
equality_is_decided = λ theory t u accepted. equality_or theory accepted t u
