-- A variable becomes the first target's.
use Rattle.std.proofs.Common.{◌≡◌, ℕ, zero, suc, ◌<◌, ◌≤◌, List, ◌∷◌, ◌⊎◌, inl, inr, nat_eq, cond, if◌then◌else◌, Some, None, refl, sym, ◌∙◌, ap, arith, subst, Contains, AllPairs}
use Rattle.std.specs.Prelude.{◌≢◌}
use Rattle.std.proofs.lemmas.Bool.{cases_Bool, eqb-true, eq-eqb}
use Rattle.dps_terms.specs.Tree.{var, Tree, leaf, StandsIn, IsSubterm, itself}
use Rattle.dps_terms.specs.Replace.{substitute, variables_to}
use Rattle.dps_terms.specs.Bindings.{image}
use Rattle.dps_terms.proofs.Replacing.{keeps_subterms}
use Rattle.dps_unify.specs.Order.{level_of}
use Rattle.dps_unify.proofs.Bound.{single}
use Rattle.dps_unify.proofs.Trees.{in_leaf, variable_of_instance, substitute_in_turn, substitute_agrees}
use Rattle.dps_solver.specs.Levels.{IsVariableUpTo}
use Rattle.dps_solver.specs.Scene.{Scene, Ask}
use Rattle.dps_solver.specs.declared.scene.Target.{Target}
use Rattle.dps_solver.specs.Search.{Branch, lowered}
use Rattle.dps_directions.proofs.Invariant.{IsFree, IsOpen, IsBuilt, IsTermOf, sought_for, IsNew, IsBoundTo, IsInBindings, IsKept}
use Rattle.dps_solver.proofs.Bindings.{here, elsewhere}
use Rattle.dps_unify.proofs.Unique.{was_variable}
use Rattle.dps_directions.proofs.Following.{
  same_number,
  level_there,
  level_past,
  in_bindings_or_not,
  stays_built,
  built_for,
  distinct_tail,
  distinct_head,
  first_in,
  rest_in,
  open_cases,
  fewer_terms,
}

-- one more thing that is meant
abbrev pub with_one : ℕ → Tree → (ℕ → Tree) → ℕ → Tree
with_one x t f y = if nat_eq x y then t else f y

pub with_here : (x : ℕ) (t : Tree) (f : ℕ → Tree) (y : ℕ) → x ≡ y → with_one x t f y ≡ t
with_here x t f y e = ap (λ b. cond b t (f y)) (eq-eqb x y e)

pub with_else : (x : ℕ) (t : Tree) (f : ℕ → Tree) (y : ℕ) → x ≢ y → with_one x t f y ≡ f y
with_else x t f y d = elim (cases_Bool (nat_eq x y)) [ inl e ↦ absurd (d (eqb-true x y e)) | inr e ↦ ap (λ b. cond b t (f y)) e ]

pub same_var : (x y : ℕ) → leaf (var x) ≡ leaf (var y) → x ≡ y
same_var x y e = cc

pub same_some : (k l : ℕ) → Some k ≡ Some l → k ≡ l
same_some k l e = cc

pub le_or_gt : (k l : ℕ) → (k ≤ l) ⊎ (l < k)
le_or_gt zero l = inl (omega arith)
le_or_gt (suc k) zero = inr (omega arith)
le_or_gt (suc k) (suc l) = elim (le_or_gt k l) [ inl h ↦ inl (omega (arith, h)) | inr h ↦ inr (omega (arith, h)) ]

-- a new name stands in no term of the search under its substitution
pub not_under : (scene : Scene) (ask : Ask) (b : Branch) (n : ℕ) → IsNew scene ask b n → ((x : ℕ) → x ≢ n → ¬ StandsIn (var n) (b.theta x))
    → (t : Tree) → IsTermOf scene ask b t → ¬ StandsIn (var n) (substitute b.theta t)
not_under scene ask b n new apart t is c =
    let m = variable_of_instance b.theta n t c in
    elim (same_number m.0 n) [
      | inl e ↦ new.terms t is (subst (λ k. StandsIn (var k) t) e m.1)
      | inr d ↦ apart m.0 d m.2
    ]

module _ (scene : Scene) (ask : Ask) (b : Branch) (z : Target) (rest : List Target) (kept : IsKept scene ask b) (is : b.targets ≡ z ∷ rest) (w : ℕ)
    (term : substitute b.theta z.term ≡ leaf (var w)) (high : ¬ IsVariableUpTo b.levels z.level w) (below_m : (x l : ℕ) → level_of scene.system.levels x ≡ Some l → l ≤ scene.system.m) where
  abbrev next : Branch
  next = lowered b z rest w

  abbrev q : ℕ → Tree
  q = image (single w (leaf (var z.name)))

  abbrev after : ℕ → Tree
  after = with_one z.name (leaf (var z.name)) kept.means

  first : Contains b.targets z
  first = first_in scene ask b z rest kept is

  pub z_new : IsNew scene ask b z.name
  z_new = elim (kept.names z first) [ inl new ↦ new | inr bound ↦ absurd (bound.composed w (bound.term ∙ term)) ]

  -- a new name is not w
  not_w : (n : ℕ) → IsNew scene ask b n → ((x : ℕ) → x ≢ n → ¬ StandsIn (var n) (b.theta x)) → w ≢ n
  not_w n new apart e =
      not_under scene ask b n new apart z.term (sought_for first) (subst (λ t. StandsIn (var n) t) (sym term) (subst (λ k. StandsIn (var n) (leaf (var k))) (sym e) itself))

  pub not_z : w ≢ z.name
  not_z = not_w z.name z_new (λ x d. kept.apart z x first d)

  q_w : q w ≡ leaf (var z.name)
  q_w = here w (leaf (var z.name))

  q_other : (y : ℕ) → y ≢ w → q y ≡ leaf (var y)
  q_other y d = elsewhere w (leaf (var z.name)) y d

  q_z : q z.name ≡ leaf (var z.name)
  q_z = q_other z.name (λ e. not_z (sym e))

  w_unbound : b.theta w ≡ leaf (var w)
  w_unbound = sym (sub_var w term) ∙ substitute_in_turn b.theta b.theta z.term ∙ substitute_agrees (λ x. substitute b.theta (b.theta x)) b.theta z.term (λ x k. kept.idempotent x) ∙ term
    where
      sub_var : (v : ℕ) → substitute b.theta z.term ≡ leaf (var v) → substitute b.theta (substitute b.theta z.term) ≡ b.theta v
      sub_var v e = ap (substitute b.theta) e

  pub theta_z : next.theta z.name ≡ leaf (var z.name)
  theta_z = ap (substitute q) z_new.unbound ∙ q_z

  pub theta_w : next.theta w ≡ leaf (var z.name)
  theta_w = ap (substitute q) w_unbound ∙ q_w

  theta_term : substitute next.theta z.term ≡ leaf (var z.name)
  theta_term = sym (substitute_in_turn q b.theta z.term) ∙ ap (substitute q) term ∙ q_w

  later : (t u : Tree) → substitute b.theta t ≡ substitute b.theta u → substitute next.theta t ≡ substitute next.theta u
  later t u e = sym (substitute_in_turn q b.theta t) ∙ ap (substitute q) e ∙ substitute_in_turn q b.theta u

  -- what becomes a variable was one
  pub becomes : (x y : ℕ) → next.theta x ≡ leaf (var y) → ((b.theta x ≡ leaf (var w)) × (y ≡ z.name)) ⊎ (b.theta x ≡ leaf (var y))
  becomes x y e =
      let v = was_variable q (b.theta x) y e in
      let to : q v.0 ≡ leaf (var y) = sym (ap (substitute q) v.1) ∙ e in
      elim (same_number v.0 w) [
        | inl d ↦ inl (v.1 ∙ ap (λ n. leaf (var n)) d, sym (same_var z.name y (sym (ap q d ∙ q_w) ∙ to)))
        | inr d ↦ inr (v.1 ∙ (sym (q_other v.0 d) ∙ to))
      ]

  pub free_before_lower : (y l : ℕ) → IsFree next y l → y ≢ z.name → IsFree b y l
  free_before_lower y l f d = (
    sym (level_past (z.name, z.level) y b.levels (λ e. d (sym e))) ∙ f.0,
    elim (becomes y y f.1) [ inl k ↦ absurd (d k.1) | inr k ↦ k ],
  )

  -- an open variable was open before, and stays where it stood
  z_level : (l : ℕ) → level_of next.levels z.name ≡ Some l → l ≡ z.level
  z_level l e = same_some l z.level (sym e ∙ level_there z.name z.level z.name b.levels refl)

  pub open_before_lower : (y l : ℕ) → IsOpen next y l → IsOpen b y l
  open_before_lower y l (inl p) = inl (p.0, rest_in scene ask b z rest kept is p.0 p.1, p.2, p.3)
  open_before_lower y l (inr f) = elim (same_number y z.name) [
    | inl e ↦ inl (z, first, sym e, sym (z_level l (subst (λ n. level_of next.levels n ≡ Some l) e f.0)))
    | inr d ↦ inr (free_before_lower y l f d)
  ]

  pub not_w_pending : (y : Target) → Contains rest y → y.name ≢ w
  not_w_pending y c e = elim (kept.names y (rest_in scene ask b z rest kept is y c)) [
    | inl new ↦ not_w y.name new (λ x d. kept.apart y x (rest_in scene ask b z rest kept is y c) d) (sym e)
    | inr bound ↦ bound.composed w (ap b.theta e ∙ w_unbound)
  ]

  open_not_w : (y l : ℕ) → IsOpen next y l → y ≢ w
  open_not_w y l (inl p) d = not_w_pending p.0 p.1 (p.2 ∙ d)
  open_not_w y l (inr f) d = not_z (sym d ∙ same_var y z.name (sym f.1 ∙ ap next.theta d ∙ theta_w))

  -- the trees stay built
  free_z : IsFree next z.name z.level
  free_z = (level_there z.name z.level z.name b.levels refl, theta_z)

  after_z : after z.name ≡ leaf (var z.name)
  after_z = with_here z.name (leaf (var z.name)) kept.means z.name refl

  after_else : (y : ℕ) → y ≢ z.name → after y ≡ kept.means y
  after_else y d = with_else z.name (leaf (var z.name)) kept.means y (λ e. d (sym e))

  put_z : IsBuilt scene next after z.level (leaf (var z.name)) z.term
  put_z = record {
    leaves = (z.level, inr free_z, omega arith);
    means_it = ap (substitute next.theta) after_z ∙ theta_z ∙ sym theta_term;
  }

  put_w : (k : ℕ) → IsFree b w k → IsBuilt scene next after k (leaf (var z.name)) (leaf (var w))
  put_w k f = record {
    leaves = (z.level, inr free_z, elim (le_or_gt k z.level) [ inl h ↦ absurd (high (k, f.0, h)) | inr h ↦ omega (arith, h) ]);
    means_it = ap (substitute next.theta) after_z ∙ theta_z ∙ sym theta_w;
  }

  put_other : (y k : ℕ) → y ≢ z.name → IsOpen next y k → IsBuilt scene next after k (leaf (var y)) (kept.means y)
  put_other y k d o = record { leaves = (k, o, omega arith); means_it = ap (substitute next.theta) (after_else y d) }

  free_after : (y k : ℕ) → y ≢ z.name → y ≢ w → IsFree b y k → IsFree next y k
  free_after y k d e f = (level_past (z.name, z.level) y b.levels (λ i. d (sym i)) ∙ f.0, ap (substitute q) f.1 ∙ q_other y e)

  put_free : (y k : ℕ) → y ≢ z.name → IsFree b y k → IsBuilt scene next after k (q y) (kept.means y)
  put_free y k d f = elim (same_number y w) [
    | inl e ↦
        let g = subst (λ n. IsFree b n k) e f in
        subst (λ n. IsBuilt scene next after k (q n) (kept.means n)) (sym e)
        (subst (λ t. IsBuilt scene next after k t (kept.means w)) (sym q_w) (subst (λ u. IsBuilt scene next after k (leaf (var z.name)) u) (sym (kept.means_free w k g)) (put_w k g)))
    | inr e ↦ subst (λ t. IsBuilt scene next after k t (kept.means y)) (sym (q_other y e)) (put_other y k d (inr (free_after y k d e f)))
  ]

  put : (y k : ℕ) → IsOpen b y k → IsBuilt scene next after k (q y) (kept.means y)
  put y k o = elim (open_cases scene ask b z rest kept is y k o) [
    | inl d ↦
        subst (λ n. IsBuilt scene next after n (q y) (kept.means y)) (sym d.1)
        (subst (λ n. IsBuilt scene next after z.level (q n) (kept.means n)) (sym d.0)
        (subst (λ t. IsBuilt scene next after z.level t (kept.means z.name)) (sym q_z)
        (built_for scene next after z.level (leaf (var z.name)) z.term (kept.means z.name) put_z (sym (later (kept.means z.name) z.term (kept.means_sought z first))))))
    | inr d ↦ elim d.1 [
      | inl p ↦ subst (λ t. IsBuilt scene next after k t (kept.means y)) (sym (q_other y (λ e. not_w_pending p.0 p.1 (p.2 ∙ e)))) (put_other y k d.0 (inl p))
      | inr f ↦ put_free y k d.0 f
    ]
  ]

  built : (l : ℕ) (t u : Tree) → IsBuilt scene b kept.means l t u → IsBuilt scene next after l (substitute q t) u
  built l t u h = stays_built scene b next q kept.means after later put l t u h

  stands_after : (y k x : ℕ) → IsOpen next y k → StandsIn (var y) (b.trees x) → StandsIn (var y) (substitute q (b.trees x))
  stands_after y k x o c = subst (λ t. IsSubterm t (substitute q (b.trees x))) (q_other y (open_not_w y k o)) (keeps_subterms (variables_to q) c)

  least_before : (y l : ℕ) → IsOpen next y l → IsInBindings scene b y → (x k : ℕ) × (level_of scene.system.levels x ≡ Some k) × StandsIn (var y) (next.trees x) × (k ≤ l)
  least_before y l o i = let h = kept.least y l (open_before_lower y l o) i in (h.0, h.1, h.2, stands_after y l h.0 o h.3, h.4)

  least_new : (y l : ℕ) → IsOpen next y l → IsInBindings scene next y → ¬ IsInBindings scene b y → (x k : ℕ) × (level_of scene.system.levels x ≡ Some k) × StandsIn (var y) (next.trees x) × (k ≤ l)
  least_new y l o i never = (i.0, i.1, i.2, i.3, omega (arith, kept.others y l (open_before_lower y l o) never, below_m i.0 i.1 i.2))

  -- what stands under the new substitution
  stands_before : (n x : ℕ) → StandsIn (var n) (next.theta x) → n ≢ z.name → StandsIn (var n) (b.theta x)
  stands_before n x c d =
      let m = variable_of_instance q n (b.theta x) c in
      elim (same_number m.0 w) [
        | inl e ↦ absurd (d (same_var n z.name (in_leaf (var z.name) (leaf (var n)) (subst (λ t. StandsIn (var n) t) (ap q e ∙ q_w) m.2))))
        | inr e ↦ subst (λ k. StandsIn (var k) (b.theta x)) (sym (same_var n m.0 (in_leaf (var m.0) (leaf (var n)) (subst (λ t. StandsIn (var n) t) (q_other m.0 e) m.2)))) m.1
      ]

  still_new : (n : ℕ) → n ≢ z.name → IsNew scene ask b n → ((x : ℕ) → x ≢ n → ¬ StandsIn (var n) (b.theta x)) → IsNew scene ask next n
  still_new n d new apart = record {
    unbound = ap (substitute q) new.unbound ∙ q_other n (λ e. not_w n new apart (sym e));
    no_level = level_past (z.name, z.level) n b.levels (λ e. d (sym e)) ∙ new.no_level;
    terms = λ t k. new.terms t (fewer_terms scene ask b z rest kept is next refl t k);
  }

  rest_not_z : (y : Target) → Contains rest y → y.name ≢ z.name
  rest_not_z y c e = distinct_head z y rest (subst (λ ts. AllPairs (λ (x v : Target). x.name ≢ v.name) ts) is kept.distinct) c (sym e)

  still_bound : (y : Target) → y.name ≢ z.name → IsBoundTo scene b y → IsBoundTo scene next y
  still_bound y d bound = record {
    level = level_past (z.name, z.level) y.name b.levels (λ e. d (sym e)) ∙ bound.level;
    term = ap (substitute q) bound.term ∙ substitute_in_turn q b.theta y.term;
    composed = λ v e. let k = was_variable q (b.theta y.name) v e in bound.composed k.0 k.1;
  }

  idempotent_at : (v : ℕ) → substitute next.theta (q v) ≡ substitute q (b.theta v)
  idempotent_at v = elim (same_number v w) [
    | inl e ↦ subst (λ n. substitute next.theta (q n) ≡ substitute q (b.theta n)) (sym e) (ap (substitute next.theta) q_w ∙ theta_z ∙ sym theta_w)
    | inr d ↦ ap (substitute next.theta) (q_other v d)
  ]

  idempotent_now : (x : ℕ) → substitute next.theta (next.theta x) ≡ next.theta x
  idempotent_now x =
      substitute_in_turn next.theta q (b.theta x)
      ∙ substitute_agrees (λ v. substitute next.theta (q v)) (λ v. substitute q (b.theta v)) (b.theta x) (λ v k. idempotent_at v)
      ∙ sym (substitute_in_turn q b.theta (b.theta x))
      ∙ ap (substitute q) (kept.idempotent x)

  levelled_now : (x l y : ℕ) → level_of next.levels x ≡ Some l → next.theta x ≡ leaf (var y) → (k : ℕ) × (level_of next.levels y ≡ Some k) × (k ≤ l)
  levelled_now x l y e f = elim (same_number x z.name) [
    | inl d ↦ (l, subst (λ n. level_of next.levels n ≡ Some l) (d ∙ same_var z.name y (sym theta_z ∙ ap next.theta (sym d) ∙ f)) e, omega arith)
    | inr d ↦ other d (becomes x y f)
  ]
    where
      other : x ≢ z.name → ((b.theta x ≡ leaf (var w)) × (y ≡ z.name)) ⊎ (b.theta x ≡ leaf (var y)) → (k : ℕ) × (level_of next.levels y ≡ Some k) × (k ≤ l)
      other d (inl h) =
          let k = kept.levelled x l w (sym (level_past (z.name, z.level) x b.levels (λ i. d (sym i))) ∙ e) h.0 in
          (z.level, level_there z.name z.level y b.levels (sym h.1), elim (le_or_gt k.0 z.level) [ inl i ↦ absurd (high (k.0, k.1, i)) | inr i ↦ omega (arith, i, k.2) ])
      other d (inr h) =
          let k = kept.levelled x l y (sym (level_past (z.name, z.level) x b.levels (λ i. d (sym i))) ∙ e) h in
          let y_not_z : y ≢ z.name = λ i. kept.apart z x first d (subst (λ t. StandsIn (var z.name) t) (sym (h ∙ ap (λ n. leaf (var n)) i)) itself) in
          (k.0, level_past (z.name, z.level) y b.levels (λ i. y_not_z (sym i)) ∙ k.1, k.2)

  means_free_now : (y l : ℕ) → IsFree next y l → after y ≡ leaf (var y)
  means_free_now y l f = elim (same_number y z.name) [
    | inl e ↦ subst (λ n. after n ≡ leaf (var n)) (sym e) after_z
    | inr d ↦ after_else y d ∙ kept.means_free y l (free_before_lower y l f d)
  ]

  pub scene_not_z : (x l : ℕ) → level_of scene.system.levels x ≡ Some l → x ≢ z.name
  scene_not_z x l e d = let f : None ≡ Some l = sym z_new.no_level ∙ sym (ap (level_of b.levels) d) ∙ kept.levels x l e in cc

  unbound_now : (x l : ℕ) → level_of scene.system.levels x ≡ Some l → next.theta x ≡ leaf (var x) → next.trees x ≡ leaf (var x)
  unbound_now x l e f =
      let d = scene_not_z x l e in
      let before : b.theta x ≡ leaf (var x) = elim (becomes x x f) [ inl k ↦ absurd (d k.1) | inr k ↦ k ] in
      ap (substitute q) (kept.unbound x l e before) ∙ q_other x (λ i. d (same_var x z.name (sym f ∙ ap next.theta i ∙ theta_w)))

  pub lowers_keep : IsKept scene ask next
  lowers_keep = record {
    means = after;
    means_sought = λ y c. ap (substitute next.theta) (after_else y.name (rest_not_z y c)) ∙ later (kept.means y.name) y.term (kept.means_sought y (rest_in scene ask b z rest kept is y c));
    means_free = means_free_now;
    idempotent = idempotent_now;
    levelled = levelled_now;
    distinct = distinct_tail z rest (subst (λ ts. AllPairs (λ (x v : Target). x.name ≢ v.name) ts) is kept.distinct);
    apart = λ y x c d k. kept.apart y x (rest_in scene ask b z rest kept is y c) d (stands_before y.name x k (rest_not_z y c));
    names = λ y c. elim (kept.names y (rest_in scene ask b z rest kept is y c)) [
      | inl new ↦ inl (still_new y.name (rest_not_z y c) new (λ x d. kept.apart y x (rest_in scene ask b z rest kept is y c) d))
      | inr bound ↦ inr (still_bound y (rest_not_z y c) bound)
    ];
    below_next = λ y l o. kept.below_next y l (open_before_lower y l o);
    new_numbers = λ n h.
        let k = kept.new_numbers n h in
        let d : n ≢ z.name = λ e. let low = kept.below_next z.name z.level (inl (z, first, refl, refl)) in omega (arith, e, h, low) in
        (still_new n d k.0 k.1, λ x i c. k.1 x i (stands_before n x c d));
    levels = λ x l e. level_past (z.name, z.level) x b.levels (λ d. scene_not_z x l e (sym d)) ∙ kept.levels x l e;
    fresh = λ y l o. kept.fresh y l (open_before_lower y l o);
    next_high = kept.next_high;
    up_to_m = λ y l o. kept.up_to_m y l (open_before_lower y l o);
    bindings = λ x l e. built l (b.trees x) (leaf (var x)) (kept.bindings x l e);
    answers = λ y c. built y.level (b.trees y.name) y.term (kept.answers y c);
    unbound = unbound_now;
    least = λ y l o i. elim (in_bindings_or_not scene b y) [ inl k ↦ least_before y l o k | inr k ↦ least_new y l o i k ];
    others = λ y l o never. kept.others y l (open_before_lower y l o) (λ i. never (i.0, i.1, i.2, stands_after y l i.0 o i.3));
  }
