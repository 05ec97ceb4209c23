-- More is put for variables in values: variables that are newly bound get another one's tree, or become targets.
use Rattle.std.proofs.Common.{◌≡◌, ℕ, ◌≤◌, List, ◌++◌, ◌⊎◌, inl, inr, Option, Some, None, refl, sym, ◌∙◌, ap, arith, subst, Contains}
use Rattle.std.specs.Prelude.{◌≢◌}
use Rattle.dps_terms.specs.Tree.{var, entry, Tree, leaf, StandsIn, IsSubterm, itself}
use Rattle.dps_terms.specs.Replace.{substitute, variables_to, numbered}
use Rattle.dps_terms.specs.Bindings.{bound, image}
use Rattle.dps_terms.proofs.Replacing.{keeps_subterms}
use Rattle.dps_unify.specs.Order.{level_of, ComesBefore}
use Rattle.dps_unify.specs.Unifier.{IsMgu, IsVariableOf}
use Rattle.dps_unify.proofs.Bound.{cases_option, image_none, image_some}
use Rattle.dps_unify.proofs.Trees.{in_leaf, variable_of_instance, substitute_in_turn, substitute_agrees}
use Rattle.dps_solver.specs.Levels.{IsEntryUpTo}
use Rattle.dps_solver.specs.Scene.{Scene, Ask}
use Rattle.dps_solver.specs.declared.scene.Target.{Target}
use Rattle.dps_solver.specs.Search.{Branch, AreNewlyBound}
use Rattle.dps_directions.proofs.Invariant.{IsFree, IsOpen, IsBuilt, IsTermOf, value_of, sought_for, asked_for, left_of, right_of, IsNew, IsBoundTo, IsInBindings, IsKept}
use Rattle.dps_unify.proofs.Unique.{fixed, was_variable, is_bound_to}
use Rattle.dps_know.proofs.Listing.{in_left, in_right, in_append}
use Rattle.dps_directions.proofs.Following.{same_number, in_bindings_or_not, stays_built}
use Rattle.dps_directions.proofs.Lowering.{not_under, same_var}
use Rattle.dps_directions.proofs.NewlyBound.{new_targets, moves, after_all, renamed, AreNames, moves_else, moves_at}
use Rattle.dps_directions.proofs.NewlyBound.{IsNewTarget, variable_or_not, renamed_is, is_new, has_target, Distinct, distinct_append, new_distinct}

before_level : (o : Option ℕ) (k y v : ℕ) → ComesBefore o (Some k) y v → (j : ℕ) × (o ≡ Some j) × (j ≤ k)
before_level (Some j) k y v (inl h) = (j, refl, omega (arith, h))
before_level (Some j) k y v (inr h) = (j, refl, omega (arith, h.0))
before_level None k y v h = absurd h

abbrev pub IsLeft : List Target → ℕ → ℕ → Type 0
IsLeft left y k = (x : Target) × Contains left x × (x.name ≡ y) × (x.level ≡ k)

-- the variable's tree is an entry that has its value now
abbrev pub IsEntryNow : Scene → (ℕ → Tree) → (ℕ → Tree) → (ℕ → Tree) → ℕ → ℕ → Type 0
IsEntryNow scene th means base y k =
    (i : ℕ) × (base y ≡ leaf (entry i)) × IsEntryUpTo scene.system.know k i
    × (substitute th (numbered scene.values i (leaf (entry i))) ≡ substitute th (means y))

module _ (scene : Scene) (ask : Ask) (b : Branch) (kept : IsKept scene ask b) (u : List (ℕ × Tree)) (pairs : List (Tree × Tree)) (mgu : IsMgu b.levels pairs u)
    (inside : (n : ℕ) → IsVariableOf pairs n → (t : Tree) × IsTermOf scene ask b t × StandsIn (var n) (substitute b.theta t)) where
  abbrev pub th : ℕ → Tree
  th x = substitute (image u) (b.theta x)

  idem : (t : Tree) → substitute b.theta (substitute b.theta t) ≡ substitute b.theta t
  idem t = substitute_in_turn b.theta b.theta t ∙ substitute_agrees (λ x. substitute b.theta (b.theta x)) b.theta t (λ x k. kept.idempotent x)

  pair_fixed : (n : ℕ) → IsVariableOf pairs n → b.theta n ≡ leaf (var n)
  pair_fixed n h = let t = inside n h in fixed b.theta (substitute b.theta t.0) (idem t.0) n t.2

  pair_old : (n : ℕ) → IsNew scene ask b n → ((x : ℕ) → x ≢ n → ¬ StandsIn (var n) (b.theta x)) → ¬ IsVariableOf pairs n
  pair_old n new apart h = let t = inside n h in not_under scene ask b n new apart t.0 t.1 t.2

  unchanged : (v : ℕ) → ¬ IsVariableOf pairs v → image u v ≡ leaf (var v)
  unchanged v h = elim (cases_option (bound u v)) [ inl e ↦ image_none u v e | inr e ↦ absurd (h (mgu.binds v e.0 e.1)) ]

  held : (v n : ℕ) → StandsIn (var n) (image u v) → (n ≡ v) ⊎ IsVariableOf pairs n
  held v n c = elim (cases_option (bound u v)) [
    | inl e ↦ inl (same_var n v (in_leaf (var v) (leaf (var n)) (subst (λ t. StandsIn (var n) t) (image_none u v e) c)))
    | inr e ↦ inr (mgu.holds v e.0 e.1 n (subst (λ t. StandsIn (var n) t) (image_some u v e.0 e.1) c))
  ]

  pub later : (t v : Tree) → substitute b.theta t ≡ substitute b.theta v → substitute th t ≡ substitute th v
  later t v e = sym (substitute_in_turn (image u) b.theta t) ∙ ap (substitute (image u)) e ∙ substitute_in_turn (image u) b.theta v

  new_unbound : (n : ℕ) → IsNew scene ask b n → ((x : ℕ) → x ≢ n → ¬ StandsIn (var n) (b.theta x)) → th n ≡ leaf (var n)
  new_unbound n new apart = ap (substitute (image u)) new.unbound ∙ unchanged n (pair_old n new apart)

  new_apart : (n : ℕ) → IsNew scene ask b n → ((x : ℕ) → x ≢ n → ¬ StandsIn (var n) (b.theta x)) → (x : ℕ) → x ≢ n → ¬ StandsIn (var n) (th x)
  new_apart n new apart x d c =
      let m = variable_of_instance (image u) n (b.theta x) c in
      elim (held m.0 n m.2) [
        | inl e ↦ apart x d (subst (λ k. StandsIn (var k) (b.theta x)) (sym e) m.1)
        | inr h ↦ pair_old n new apart h
      ]

  fixed_in : (x v n : ℕ) → StandsIn (var v) (b.theta x) → StandsIn (var n) (image u v) → b.theta n ≡ leaf (var n)
  fixed_in x v n c k = elim (held v n k) [
    | inl e ↦ subst (λ j. b.theta j ≡ leaf (var j)) (sym e) (fixed b.theta (b.theta x) (kept.idempotent x) v c)
    | inr h ↦ pair_fixed n h
  ]

  th_idempotent : (x : ℕ) → substitute th (th x) ≡ th x
  th_idempotent x =
      substitute_in_turn th (image u) (b.theta x)
      ∙ substitute_agrees (λ v. substitute th (image u v)) (image u) (b.theta x)
      (λ v c. substitute_agrees th (image u) (image u v) (λ n k. ap (substitute (image u)) (fixed_in x v n c k)) ∙ mgu.idempotent v)

  pub th_fixed : (x n : ℕ) → StandsIn (var n) (th x) → th n ≡ leaf (var n)
  th_fixed x n c = fixed th (th x) (th_idempotent x) n c

  pub th_levelled : (x l y : ℕ) → level_of b.levels x ≡ Some l → th x ≡ leaf (var y) → (k : ℕ) × (level_of b.levels y ≡ Some k) × (k ≤ l)
  th_levelled x l y e f =
      let v = was_variable (image u) (b.theta x) y f in
      let to : image u v.0 ≡ leaf (var y) = sym (ap (substitute (image u)) v.1) ∙ f in
      let k = kept.levelled x l v.0 e v.1 in
      elim (same_number v.0 y) [
        | inl d ↦ (k.0, subst (λ n. level_of b.levels n ≡ Some k.0) d k.1, k.2)
        | inr d ↦
            let before = mgu.least v.0 y (is_bound_to u v.0 y to d) in
            let j = before_level (level_of b.levels y) k.0 y v.0 (subst (λ o. ComesBefore (level_of b.levels y) o y v.0) k.1 before) in
            (j.0, j.1, omega (arith, j.2, k.2))
      ]

  pub back : (y : ℕ) → th y ≡ leaf (var y) → b.theta y ≡ leaf (var y)
  back y f =
      let v = was_variable (image u) (b.theta y) y f in
      let to : image u v.0 ≡ leaf (var y) = sym (ap (substitute (image u)) v.1) ∙ f in
      elim (same_number v.0 y) [
        | inl d ↦ v.1 ∙ ap (λ n. leaf (var n)) d
        | inr d ↦ pair_fixed y (mgu.holds v.0 (leaf (var y)) (is_bound_to u v.0 y to d) y itself)
      ]

  pending_not_free : (z : Target) (k : ℕ) → Contains b.targets z → ¬ IsFree b z.name k
  pending_not_free z k c f = elim (kept.names z c) [
    | inl new ↦ let e : None ≡ Some k = sym new.no_level ∙ f.0 in cc
    | inr h ↦ h.composed z.name f.1
  ]

  module _ (ps : List (ℕ × ℕ)) (newly : AreNewlyBound b.levels b.theta th ps) (left : List Target) (base : ℕ → Tree)
      (left_in : (y : Target) → Contains left y → Contains b.targets y) (left_distinct : Distinct left)
      (base_left : (y k : ℕ) → IsLeft left y k → base y ≡ leaf (var y)) (base_free : (y k : ℕ) → IsFree b y k → base y ≡ leaf (var y))
      (cases : (y k : ℕ) → IsOpen b y k → IsLeft left y k ⊎ (IsFree b y k ⊎ IsEntryNow scene th kept.means base y k))
      (below_m : (x l : ℕ) → level_of scene.system.levels x ≡ Some l → l ≤ scene.system.m) where
    abbrev pub next : Branch
    next = after_all th ps (record b { theta = th; trees = (λ x. substitute base (b.trees x)); targets = left })

    abbrev pub p : ℕ → Tree
    p y = substitute (moves th ps) (base y)

    pub newly_free : (q : ℕ × ℕ) → Contains ps q → IsFree b q.0 q.1
    newly_free q c = let h = (newly.those q).0 c in (h.0, h.1)

    pub newly_bound : (q : ℕ × ℕ) → Contains ps q → th q.0 ≢ leaf (var q.0)
    newly_bound q c = ((newly.those q).0 c).2

    pub are_names : AreNames th ps
    are_names q r v c d e f =
        newly_bound r d (subst (λ n. th n ≡ leaf (var n)) (sym f) (th_fixed q.0 v (subst (λ t. StandsIn (var v) t) (sym e) itself)))

    moves_fixed : (y : ℕ) → th y ≡ leaf (var y) → moves th ps y ≡ leaf (var y)
    moves_fixed y f = moves_else th ps y (λ q c e. newly_bound q c (subst (λ n. th n ≡ leaf (var n)) (sym e) f))

    moves_left : (y : Target) → Contains left y → moves th ps y.name ≡ leaf (var y.name)
    moves_left y c = moves_else th ps y.name (λ q d e. pending_not_free y q.1 (left_in y c) (subst (λ n. IsFree b n q.1) e (newly_free q d)))

    pub p_left : (y k : ℕ) → IsLeft left y k → p y ≡ leaf (var y)
    p_left y k h = ap (substitute (moves th ps)) (base_left y k h) ∙ subst (λ n. moves th ps n ≡ leaf (var n)) h.2 (moves_left h.0 h.1)

    pub p_fixed : (y k : ℕ) → IsFree b y k → th y ≡ leaf (var y) → p y ≡ leaf (var y)
    p_fixed y k f e = ap (substitute (moves th ps)) (base_free y k f) ∙ moves_fixed y e

    pub p_bound : (q : ℕ × ℕ) → Contains ps q → p q.0 ≡ renamed (th q.0) q.0
    p_bound q c = ap (substitute (moves th ps)) (base_free q.0 q.1 (newly_free q c)) ∙ moves_at th ps q newly.ascending are_names c

    pub open_before_unify : (y l : ℕ) → IsOpen next y l → IsOpen b y l
    open_before_unify y l (inr f) = inr (f.0, back y f.1)
    open_before_unify y l (inl h) = elim (in_append h.0 left (new_targets th ps) h.1) [
      | inl c ↦ inl (h.0, left_in h.0 c, h.2, h.3)
      | inr c ↦ inr (subst (λ n. IsFree b n l) h.2 (subst (λ n. IsFree b h.0.name n) h.3 (newly_free (h.0.name, h.0.level) (is_new th ps h.0 c).among)))
    ]

    stays : (y l : ℕ) → IsOpen next y l → p y ≡ leaf (var y)
    stays y l (inr f) = p_fixed y l (f.0, back y f.1) f.1
    stays y l (inl h) = elim (in_append h.0 left (new_targets th ps) h.1) [
      | inl c ↦ p_left y l (h.0, c, h.2, h.3)
      | inr c ↦ subst (λ n. p n ≡ leaf (var n)) h.2 (new_at h.0 (is_new th ps h.0 c))
    ]
      where
        new_at : (x : Target) → IsNewTarget th ps x → p x.name ≡ leaf (var x.name)
        new_at x k = p_bound (x.name, x.level) k.among ∙ renamed_is (th x.name) x.name (λ v e. k.composed v (k.term ∙ e))

    -- the trees stay built
    itself_built : (y k : ℕ) → IsOpen next y k → p y ≡ leaf (var y) → IsBuilt scene next kept.means k (p y) (kept.means y)
    itself_built y k o e = subst (λ t. IsBuilt scene next kept.means k t (kept.means y)) (sym e) (record { leaves = (k, o, omega arith); means_it = refl })

    put_entry : (y k : ℕ) → IsEntryNow scene th kept.means base y k → IsBuilt scene next kept.means k (p y) (kept.means y)
    put_entry y k h =
        subst (λ t. IsBuilt scene next kept.means k t (kept.means y)) (sym (ap (substitute (moves th ps)) h.1)) (record { leaves = h.2; means_it = h.3 })

    put_variable : (y k v : ℕ) → IsFree b y k → th y ≡ leaf (var v) → y ≢ v → IsBuilt scene next kept.means k (p y) (kept.means y)
    put_variable y k v f e d =
        let c : Contains ps (y, k) = (newly.those (y, k)).1 (f.0, f.1, λ i. d (sym (same_var v y (sym e ∙ i)))) in
        let l = th_levelled y k v f.0 e in
        let v_fixed : th v ≡ leaf (var v) = th_fixed y v (subst (λ t. StandsIn (var v) t) (sym e) itself) in
        let is_v : p y ≡ leaf (var v) = p_bound (y, k) c ∙ ap (λ t. renamed t y) e in
        subst (λ t. IsBuilt scene next kept.means k t (kept.means y)) (sym is_v)
        (record {
          leaves = (l.0, inr (l.1, v_fixed), l.2);
          means_it = ap (substitute th) (kept.means_free v l.0 (l.1, back v v_fixed)) ∙ v_fixed ∙ sym e ∙ sym (ap (substitute th) (kept.means_free y k f));
        })

    put_free : (y k : ℕ) → IsFree b y k → IsBuilt scene next kept.means k (p y) (kept.means y)
    put_free y k f = elim (variable_or_not (th y)) [
      | inl e ↦ elim (same_number y e.0) [
        | inl d ↦ let g : th y ≡ leaf (var y) = e.1 ∙ ap (λ n. leaf (var n)) (sym d) in itself_built y k (inr (f.0, g)) (p_fixed y k f g)
        | inr d ↦ put_variable y k e.0 f e.1 d
      ]
      | inr d ↦
          let c : Contains ps (y, k) = (newly.those (y, k)).1 (f.0, f.1, d y) in
          itself_built y k
          (inl (record { name = y; level = k; term = th y }, in_right (record { name = y; level = k; term = th y }) left (new_targets th ps) (has_target th ps (y, k) c d), refl, refl))
          (p_bound (y, k) c ∙ renamed_is (th y) y d)
    ]

    put : (y k : ℕ) → IsOpen b y k → IsBuilt scene next kept.means k (p y) (kept.means y)
    put y k o = elim (cases y k o) [
      | inl h ↦ itself_built y k (inl (h.0, in_left h.0 left (new_targets th ps) h.1, h.2, h.3)) (p_left y k h)
      | inr h ↦ elim h [ inl f ↦ put_free y k f | inr e ↦ put_entry y k e ]
    ]

    built : (l : ℕ) (t v : Tree) → IsBuilt scene b kept.means l t v → IsBuilt scene next kept.means l (substitute (moves th ps) (substitute base t)) v
    built l t v h =
        subst (λ w. IsBuilt scene next kept.means l w v) (sym (substitute_in_turn (moves th ps) base t)) (stays_built scene b next p kept.means kept.means later put l t v h)

    stands_after : (y k x : ℕ) → IsOpen next y k → StandsIn (var y) (b.trees x) → StandsIn (var y) (next.trees x)
    stands_after y k x o c =
        subst (λ t. StandsIn (var y) t) (sym (substitute_in_turn (moves th ps) base (b.trees x)))
        (subst (λ t. IsSubterm t (substitute p (b.trees x))) (stays y k o) (keeps_subterms (variables_to p) c))

    least_now : (y l : ℕ) → IsOpen next y l → IsInBindings scene next y → (x k : ℕ) × (level_of scene.system.levels x ≡ Some k) × StandsIn (var y) (next.trees x) × (k ≤ l)
    least_now y l o i = elim (in_bindings_or_not scene b y) [
      | inl j ↦ let h = kept.least y l (open_before_unify y l o) j in (h.0, h.1, h.2, stands_after y l h.0 o h.3, h.4)
      | inr never ↦ (i.0, i.1, i.2, i.3, omega (arith, kept.others y l (open_before_unify y l o) never, below_m i.0 i.1 i.2))
    ]

    -- names
    not_in_term : (n : ℕ) → IsNew scene ask b n → ((x : ℕ) → x ≢ n → ¬ StandsIn (var n) (b.theta x)) → (t : Tree) → IsTermOf scene ask next t → ¬ StandsIn (var n) t
    not_in_term n new apart t (value_of h) = new.terms t (value_of h)
    not_in_term n new apart t (sought_for {z = y} h) = elim (in_append y left (new_targets th ps) h) [
      | inl c ↦ new.terms y.term (sought_for (left_in y c))
      | inr c ↦ λ s.
          let k = is_new th ps y c in
          let f = newly_free (y.name, y.level) k.among in
          elim (same_number y.name n) [
            | inl e ↦ let g : None ≡ Some y.level = sym new.no_level ∙ subst (λ i. level_of b.levels i ≡ Some y.level) e f.0 in cc
            | inr d ↦ new_apart n new apart y.name d (subst (λ v. StandsIn (var n) v) k.term s)
          ]
    ]
    not_in_term n new apart t (asked_for h) = new.terms t (asked_for h)
    not_in_term n new apart t (left_of h) = new.terms t (left_of h)
    not_in_term n new apart t (right_of h) = new.terms t (right_of h)

    still_new : (n : ℕ) → IsNew scene ask b n → ((x : ℕ) → x ≢ n → ¬ StandsIn (var n) (b.theta x)) → IsNew scene ask next n
    still_new n new apart = record { unbound = new_unbound n new apart; no_level = new.no_level; terms = not_in_term n new apart }

    still_bound : (y : Target) → IsBoundTo scene b y → IsBoundTo scene next y
    still_bound y h = record {
      level = h.level;
      term = ap (substitute (image u)) h.term ∙ substitute_in_turn (image u) b.theta y.term;
      composed = λ v e. let k = was_variable (image u) (b.theta y.name) v e in h.composed k.0 k.1;
    }

    new_bound : (y : Target) → IsNewTarget th ps y → IsBoundTo scene next y
    new_bound y k = record {
      level = (newly_free (y.name, y.level) k.among).0;
      term = sym (th_idempotent y.name) ∙ ap (substitute th) (sym k.term);
      composed = λ v e. k.composed v (k.term ∙ e);
    }

    bound_apart : (y : Target) (x : ℕ) → IsBoundTo scene next y → ¬ StandsIn (var y.name) (th x)
    bound_apart y x h c = h.composed y.name (th_fixed x y.name c)

    names_now : (y : Target) → Contains (left ++ new_targets th ps) y → IsNew scene ask next y.name ⊎ IsBoundTo scene next y
    names_now y c = elim (in_append y left (new_targets th ps) c) [
      | inl k ↦ elim (kept.names y (left_in y k)) [
        | inl new ↦ inl (still_new y.name new (λ x d. kept.apart y x (left_in y k) d))
        | inr h ↦ inr (still_bound y h)
      ]
      | inr k ↦ inr (new_bound y (is_new th ps y k))
    ]

    pub apart_now : (y : Target) (x : ℕ) → Contains (left ++ new_targets th ps) y → x ≢ y.name → ¬ StandsIn (var y.name) (th x)
    apart_now y x c d = elim (in_append y left (new_targets th ps) c) [
      | inl k ↦ elim (kept.names y (left_in y k)) [
        | inl new ↦ new_apart y.name new (λ v e. kept.apart y v (left_in y k) e) x d
        | inr h ↦ bound_apart y x (still_bound y h)
      ]
      | inr k ↦ bound_apart y x (new_bound y (is_new th ps y k))
    ]

    means_now : (y : Target) → Contains (left ++ new_targets th ps) y → substitute th (kept.means y.name) ≡ substitute th y.term
    means_now y c = elim (in_append y left (new_targets th ps) c) [
      | inl k ↦ later (kept.means y.name) y.term (kept.means_sought y (left_in y k))
      | inr k ↦
          let n = is_new th ps y k in
          ap (substitute th) (kept.means_free y.name y.level (newly_free (y.name, y.level) n.among)) ∙ sym (th_idempotent y.name) ∙ ap (substitute th) (sym n.term)
    ]

    unbound_now : (x l : ℕ) → level_of scene.system.levels x ≡ Some l → th x ≡ leaf (var x) → next.trees x ≡ leaf (var x)
    unbound_now x l e f =
        ap (λ t. substitute (moves th ps) (substitute base t)) (kept.unbound x l e (back x f)) ∙ p_fixed x l (kept.levels x l e, back x f) f

    pub unified_keep : IsKept scene ask next
    unified_keep = record {
      means = kept.means;
      means_sought = means_now;
      means_free = λ y l f. kept.means_free y l (f.0, back y f.1);
      idempotent = th_idempotent;
      levelled = th_levelled;
      distinct = distinct_append left (new_targets th ps) left_distinct (new_distinct th ps newly.ascending)
          (λ x y k l e. let n = is_new th ps y l in pending_not_free x y.level (left_in x k) (subst (λ i. IsFree b i y.level) (sym e) (newly_free (y.name, y.level) n.among)));
      apart = apart_now;
      names = names_now;
      below_next = λ y l o. kept.below_next y l (open_before_unify y l o);
      new_numbers = λ n h. let k = kept.new_numbers n h in (still_new n k.0 k.1, new_apart n k.0 k.1);
      fresh = λ y l o. kept.fresh y l (open_before_unify y l o);
      next_high = kept.next_high;
      levels = kept.levels;
      up_to_m = λ y l o. kept.up_to_m y l (open_before_unify y l o);
      bindings = λ x l e. built l (b.trees x) (leaf (var x)) (kept.bindings x l e);
      answers = λ y c. built y.level (b.trees y.name) y.term (kept.answers y c);
      unbound = unbound_now;
      least = least_now;
      others = λ y l o never. kept.others y l (open_before_unify y l o) (λ i. never (i.0, i.1, i.2, stands_after y l i.0 o i.3));
    }
