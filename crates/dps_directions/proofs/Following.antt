-- The first target's tree becomes a variable.
use Rattle.std.proofs.Common.{◌≡◌, ℕ, suc, ◌≤◌, List, [], ◌∷◌, ◌⊎◌, inl, inr, nat_eq, cond, Some, None, refl, sym, ◌∙◌, ap, arith, subst, Contains, AllPairs}
use Rattle.std.specs.Prelude.{◌≢◌, All}
use Rattle.std.proofs.lemmas.List.Elements.{All-head, All-tail}
use Rattle.std.proofs.lemmas.Bool.{cases_Bool, eqb-true, eq-eqb}
use Rattle.dps_terms.specs.declared.Sym.{Sym}
use Rattle.dps_terms.specs.Tree.{Leaf, public, private, var, ax, entry, rigid, Tree, Trees, leaf, app, none, more, StandsIn, IsSubterm, IsAmong, itself, below, in_first, in_rest}
use Rattle.dps_terms.specs.Replace.{substitute, variables_to}
use Rattle.dps_terms.specs.Bindings.{image}
use Rattle.dps_terms.specs.Kinds.{IsBuiltOf, AnySymbol}
use Rattle.dps_terms.proofs.Replacing.{replace_in_turn, replace_agrees, keeps_subterms}
use Rattle.dps_terms.proofs.Building.{leaf_meets, built_instance, built_weaker}
use Rattle.dps_unify.specs.Order.{level_of}
use Rattle.dps_unify.proofs.Bound.{single}
use Rattle.dps_unify.proofs.Trees.{in_leaf, substitute_in_turn, substitute_agrees}
use Rattle.dps_solver.specs.Levels.{IsVariableUpTo}
use Rattle.dps_solver.specs.Scene.{Scene, Ask}
use Rattle.dps_solver.specs.declared.scene.Target.{Target}
use Rattle.dps_solver.specs.Search.{Branch, with_tree}
use Rattle.dps_directions.specs.Valid.{IsValid}
use Rattle.dps_directions.proofs.Invariant.{IsFree, IsOpen, IsBuiltLeaf, meaning, meant, IsBuilt, IsTermOf, value_of, sought_for, asked_for, left_of, right_of, IsNew, IsInBindings, IsKept}
use Rattle.dps_solver.proofs.Bindings.{here, elsewhere}
use Rattle.dps_know.proofs.Listing.{in_cons, in_head, in_tail}

-- numbers
pub same_number : (x y : ℕ) → (x ≡ y) ⊎ (x ≢ y)
same_number x y = elim (cases_Bool (nat_eq x y)) [ inl e ↦ inl (eqb-true x y e) | inr e ↦ inr (λ d. let k = eq-eqb x y d in cc) ]

-- whether a variable stands in a tree
pub app_cases : (u : Tree) (f : Sym) (ts : Trees) → IsSubterm u (app f ts) → (u ≡ app f ts) ⊎ IsAmong u ts
app_cases u f ts itself = inl refl
app_cases u f ts (below k) = inr k

not_app : (y : ℕ) (f : Sym) (ts : Trees) → ¬ IsAmong (leaf (var y)) ts → ¬ StandsIn (var y) (app f ts)
not_app y f ts never h = elim (app_cases (leaf (var y)) f ts h) [ inl e ↦ cc | inr k ↦ never k ]

more_cases : (u t : Tree) (ts : Trees) → IsAmong u (more t ts) → IsSubterm u t ⊎ IsAmong u ts
more_cases u t ts (in_first k) = inl k
more_cases u t ts (in_rest k) = inr k

mutual
  pub stands_or_not : (y : ℕ) (t : Tree) → StandsIn (var y) t ⊎ ¬ StandsIn (var y) t
  stands_or_not y (leaf (var n)) = elim (same_number n y) [
    | inl e ↦ inl (subst (λ k. StandsIn (var k) (leaf (var n))) e itself)
    | inr d ↦ inr (λ h. d (let e : leaf (var y) ≡ leaf (var n) = in_leaf (var n) (leaf (var y)) h in cc))
  ]
  stands_or_not y (leaf (public n)) = inr (λ h. let e = in_leaf (public n) (leaf (var y)) h in cc)
  stands_or_not y (leaf (private n)) = inr (λ h. let e = in_leaf (private n) (leaf (var y)) h in cc)
  stands_or_not y (leaf (ax n)) = inr (λ h. let e = in_leaf (ax n) (leaf (var y)) h in cc)
  stands_or_not y (leaf (entry n)) = inr (λ h. let e = in_leaf (entry n) (leaf (var y)) h in cc)
  stands_or_not y (leaf (rigid n)) = inr (λ h. let e = in_leaf (rigid n) (leaf (var y)) h in cc)
  stands_or_not y (app f ts) = elim (among_or_not y ts) [ inl k ↦ inl (below k) | inr k ↦ inr (not_app y f ts k) ]

  among_or_not : (y : ℕ) (ts : Trees) → IsAmong (leaf (var y)) ts ⊎ ¬ IsAmong (leaf (var y)) ts
  among_or_not y none = inr (λ h. elim h [ ])
  among_or_not y (more t ts) = elim (stands_or_not y t) [
    | inl k ↦ inl (in_first k)
    | inr k ↦ elim (among_or_not y ts) [
      | inl l ↦ inl (in_rest l)
      | inr l ↦ inr (λ h. elim (more_cases (leaf (var y)) t ts h) [ inl a ↦ k a | inr a ↦ l a ])
    ]
  ]

-- whether it stands in the tree of a variable with a level
pub level_there : (x l y : ℕ) (ps : List (ℕ × ℕ)) → x ≡ y → level_of ((x, l) ∷ ps) y ≡ Some l
level_there x l y ps e = ap (λ b. cond b (Some l) (level_of ps y)) (eq-eqb x y e)

pub level_past : (p : ℕ × ℕ) (y : ℕ) (ps : List (ℕ × ℕ)) → p.0 ≢ y → level_of (p ∷ ps) y ≡ level_of ps y
level_past p y ps d = elim (cases_Bool (nat_eq p.0 y)) [ inl e ↦ absurd (d (eqb-true p.0 y e)) | inr e ↦ ap (λ b. cond b (Some p.1) (level_of ps y)) e ]

abbrev InSome : List (ℕ × ℕ) → (ℕ → Tree) → ℕ → Type 0
InSome ps trees y = (x l : ℕ) × (level_of ps x ≡ Some l) × StandsIn (var y) (trees x)

in_some_or_not : (ps : List (ℕ × ℕ)) (trees : ℕ → Tree) (y : ℕ) → InSome ps trees y ⊎ ¬ InSome ps trees y
in_some_or_not [] trees y = inr (λ h. let e = h.2 in cc)
in_some_or_not (p ∷ ps) trees y =
    elim (stands_or_not y (trees p.0)) [
      | inl k ↦ inl (p.0, p.1, level_there p.0 p.1 p.0 ps refl, k)
      | inr k ↦ elim (in_some_or_not ps trees y) [
        | inl h ↦ elim (same_number p.0 h.0) [
          | inl e ↦ absurd (k (subst (λ x. StandsIn (var y) (trees x)) (sym e) h.3))
          | inr d ↦ inl (h.0, h.1, level_past p h.0 ps d ∙ h.2, h.3)
        ]
        | inr never ↦ inr (λ h. elim (same_number p.0 h.0) [
          | inl e ↦ k (subst (λ x. StandsIn (var y) (trees x)) (sym e) h.3)
          | inr d ↦ never (h.0, h.1, sym (level_past p h.0 ps d) ∙ h.2, h.3)
        ])
      ]
    ]

pub in_bindings_or_not : (scene : Scene) (b : Branch) (y : ℕ) → IsInBindings scene b y ⊎ ¬ IsInBindings scene b y
in_bindings_or_not scene b y = in_some_or_not scene.system.levels b.trees y

-- what is built of a level is of a greater one
built_above_leaf : (scene : Scene) (b : Branch) (k l : ℕ) → k ≤ l → (x : Leaf) → IsBuiltLeaf scene b k x → IsBuiltLeaf scene b l x
built_above_leaf scene b k l low (public n) h = tt
built_above_leaf scene b k l low (private n) h = h
built_above_leaf scene b k l low (ax n) h = h
built_above_leaf scene b k l low (entry n) h = (h.0, h.1, omega (arith, low, h.2))
built_above_leaf scene b k l low (rigid n) h = omega (arith, low, h)
built_above_leaf scene b k l low (var n) h = (h.0, h.1, omega (arith, low, h.2))

pub built_for : (scene : Scene) (b : Branch) (means : ℕ → Tree) (l : ℕ) (t u v : Tree) → IsBuilt scene b means l t u → substitute b.theta u ≡ substitute b.theta v → IsBuilt scene b means l t v
built_for scene b means l t u v h e = record { leaves = h.leaves; means_it = h.means_it ∙ e }

-- Trees put for the open variables of a branch: what was built stays built.
module _ (scene : Scene) (b c : Branch) (p means after : ℕ → Tree)
    (later : (t u : Tree) → substitute b.theta t ≡ substitute b.theta u → substitute c.theta t ≡ substitute c.theta u)
    (put : (y k : ℕ) → IsOpen b y k → IsBuilt scene c after k (p y) (means y)) where
  put_leaf : (l : ℕ) (x : Leaf) → IsBuiltLeaf scene b l x → IsBuiltOf (IsBuiltLeaf scene c l) AnySymbol (variables_to p x)
  put_leaf l (public n) h = tt
  put_leaf l (private n) h = absurd h
  put_leaf l (ax n) h = absurd h
  put_leaf l (entry n) h = h
  put_leaf l (rigid n) h = h
  put_leaf l (var y) h =
      built_weaker (IsBuiltLeaf scene c h.0) AnySymbol (IsBuiltLeaf scene c l) (p y) (put y h.0 h.1).leaves (built_above_leaf scene c h.0 l h.2)

  put_means : (l : ℕ) (x : Leaf) → IsBuiltLeaf scene b l x → substitute c.theta (meant scene after (variables_to p x)) ≡ substitute c.theta (meaning scene means x)
  put_means l (public n) h = refl
  put_means l (private n) h = refl
  put_means l (ax n) h = refl
  put_means l (entry n) h = refl
  put_means l (rigid n) h = refl
  put_means l (var y) h = (put y h.0 h.1).means_it

  pub stays_built : (l : ℕ) (t term : Tree) → IsBuilt scene b means l t term → IsBuilt scene c after l (substitute p t) term
  stays_built l t term h = record {
    leaves = built_instance (IsBuiltLeaf scene b l) AnySymbol (IsBuiltLeaf scene c l) (variables_to p) t h.leaves (λ x k i. put_leaf l x i);
    means_it =
        ap (substitute c.theta) (replace_in_turn (variables_to p) (meaning scene after) t)
        ∙ replace_in_turn (λ x. meant scene after (variables_to p x)) (variables_to c.theta) t
        ∙ replace_agrees (λ x. substitute c.theta (meant scene after (variables_to p x))) (λ x. substitute c.theta (meaning scene means x)) t
        (λ x k. put_means l x (leaf_meets (IsBuiltLeaf scene b l) AnySymbol h.leaves k))
        ∙ sym (replace_in_turn (meaning scene means) (variables_to c.theta) t)
        ∙ later (meant scene means t) term h.means_it;
  }

-- lists of targets
pub distinct_tail : (z : Target) (rest : List Target) → AllPairs (λ (x y : Target). x.name ≢ y.name) (z ∷ rest) → AllPairs (λ (x y : Target). x.name ≢ y.name) rest
distinct_tail z rest h = λ i j d l m. h (suc i) (suc j) d (omega (arith, l)) (omega (arith, m))

pub distinct_head : (z y : Target) (rest : List Target) → AllPairs (λ (x y : Target). x.name ≢ y.name) (z ∷ rest) → Contains rest y → z.name ≢ y.name
distinct_head z y rest h c = subst (λ (q : Target). z.name ≢ q.name) c.2 (h 0 (suc c.0) y (omega arith) (omega (arith, c.1)))

-- a branch whose first target is z
module _ (scene : Scene) (ask : Ask) (b : Branch) (z : Target) (rest : List Target) (kept : IsKept scene ask b) (is : b.targets ≡ z ∷ rest) where
  pub first_in : Contains b.targets z
  first_in = subst (λ ts. Contains ts z) (sym is) (in_head z rest)

  pub rest_in : (y : Target) → Contains rest y → Contains b.targets y
  rest_in y c = subst (λ ts. Contains ts y) (sym is) (in_tail y z rest c)

  distinct_now : AllPairs (λ (x y : Target). x.name ≢ y.name) (z ∷ rest)
  distinct_now = subst (λ ts. AllPairs (λ (x y : Target). x.name ≢ y.name) ts) is kept.distinct

  -- a target's name is not free
  pub sought_not_free : (y : Target) (k : ℕ) → Contains b.targets y → ¬ IsFree b y.name k
  sought_not_free y k c f = elim (kept.names y c) [
    | inl new ↦ let e : None ≡ Some k = sym new.no_level ∙ f.0 in cc
    | inr bound ↦ bound.composed y.name f.1
  ]

  pub name_not_free : (k : ℕ) → ¬ IsFree b z.name k
  name_not_free k f = sought_not_free z k first_in f

  -- an open variable is the target's name, at its level, or another one, which stays open
  pub open_cases : (y k : ℕ) → IsOpen b y k → ((y ≡ z.name) × (k ≡ z.level)) ⊎ ((y ≢ z.name) × (((x : Target) × Contains rest x × (x.name ≡ y) × (x.level ≡ k)) ⊎ IsFree b y k))
  open_cases y k (inl p) = elim (in_cons p.0 z rest (subst (λ ts. Contains ts p.0) is p.1)) [
    | inl e ↦ inl (sym p.2 ∙ ap (λ (t : Target). t.name) e, sym p.3 ∙ ap (λ (t : Target). t.level) e)
    | inr c ↦ inr (λ d. distinct_head z p.0 rest distinct_now c (sym d ∙ sym p.2), inl (p.0, c, p.2, p.3))
  ]
  open_cases y k (inr f) = inr (λ d. name_not_free k (subst (λ n. IsFree b n k) d f), inr f)

  -- the terms of what is left
  pub fewer_terms : (c : Branch) → c.targets ≡ rest → (t : Tree) → IsTermOf scene ask c t → IsTermOf scene ask b t
  fewer_terms c e t (value_of h) = value_of h
  fewer_terms c e t (sought_for {z = y} h) = sought_for (rest_in y (subst (λ ts. Contains ts y) e h))
  fewer_terms c e t (asked_for h) = asked_for h
  fewer_terms c e t (left_of h) = left_of h
  fewer_terms c e t (right_of h) = right_of h

  pub still_new : (c : Branch) → c.targets ≡ rest → c.theta ≡ b.theta → c.levels ≡ b.levels → (n : ℕ) → IsNew scene ask b n → IsNew scene ask c n
  still_new c e f g n new = record {
    unbound = ap (λ (th : ℕ → Tree). th n) f ∙ new.unbound;
    no_level = ap (λ ls. level_of ls n) g ∙ new.no_level;
    terms = λ t k. new.terms t (fewer_terms c e t k);
  }

-- a variable of at most the target's level is its tree
module _ (scene : Scene) (ask : Ask) (b : Branch) (z : Target) (rest : List Target) (kept : IsKept scene ask b) (is : b.targets ≡ z ∷ rest) (w : ℕ)
    (term : substitute b.theta z.term ≡ leaf (var w)) (up : IsVariableUpTo b.levels z.level w) (below_m : (x l : ℕ) → level_of scene.system.levels x ≡ Some l → l ≤ scene.system.m) where
  abbrev next : Branch
  next = with_tree b z rest (leaf (var w))

  abbrev p : ℕ → Tree
  p = image (single z.name (leaf (var w)))

  pub w_free : IsFree b w up.0
  w_free = (up.1, sym (sub_var b.theta w term) ∙ idem)
    where
      sub_var : (th : ℕ → Tree) (v : ℕ) → substitute b.theta z.term ≡ leaf (var v) → substitute th (substitute b.theta z.term) ≡ th v
      sub_var th v e = ap (substitute th) e

      idem : substitute b.theta (substitute b.theta z.term) ≡ leaf (var w)
      idem = substitute_in_turn b.theta b.theta z.term ∙ substitute_agrees (λ x. substitute b.theta (b.theta x)) b.theta z.term (λ x k. kept.idempotent x) ∙ term

  pub open_before_follow : (y k : ℕ) → IsOpen next y k → IsOpen b y k
  open_before_follow y k (inl q) = inl (q.0, rest_in scene ask b z rest kept is q.0 q.1, q.2, q.3)
  open_before_follow y k (inr f) = inr f

  open_after : (y k : ℕ) → IsOpen b y k → ((y ≡ z.name) × (k ≡ z.level)) ⊎ ((y ≢ z.name) × IsOpen next y k)
  open_after y k o = open_cases scene ask b z rest kept is y k o

  other_now : (y k : ℕ) → IsOpen next y k → y ≢ z.name
  other_now y k (inl q) d = distinct_head z q.0 rest (subst (λ ts. AllPairs (λ (x v : Target). x.name ≢ v.name) ts) is kept.distinct) q.1 (sym d ∙ sym q.2)
  other_now y k (inr f) d = name_not_free scene ask b z rest kept is k (subst (λ n. IsFree b n k) d f)

  put_here : IsBuilt scene next kept.means z.level (leaf (var w)) z.term
  put_here = record {
    leaves = (up.0, inr w_free, up.2);
    means_it = ap (substitute b.theta) (kept.means_free w up.0 w_free) ∙ w_free.1 ∙ sym term;
  }

  put : (y k : ℕ) → IsOpen b y k → IsBuilt scene next kept.means k (p y) (kept.means y)
  put y k o = elim (open_after y k o) [
    | inl d ↦ at_name d.0 d.1
    | inr d ↦ subst (λ t. IsBuilt scene next kept.means k t (kept.means y)) (sym (elsewhere z.name (leaf (var w)) y d.0))
        (record { leaves = (k, d.1, omega arith); means_it = refl })
  ]
    where
      at_name : y ≡ z.name → k ≡ z.level → IsBuilt scene next kept.means k (p y) (kept.means y)
      at_name d e =
          subst (λ n. IsBuilt scene next kept.means n (p y) (kept.means y)) (sym e)
          (subst (λ n. IsBuilt scene next kept.means z.level (p n) (kept.means n)) (sym d)
          (subst (λ t. IsBuilt scene next kept.means z.level t (kept.means z.name)) (sym (here z.name (leaf (var w))))
          (built_for scene next kept.means z.level (leaf (var w)) z.term (kept.means z.name) put_here (sym (kept.means_sought z (first_in scene ask b z rest kept is))))))

  built : (l : ℕ) (t term' : Tree) → IsBuilt scene b kept.means l t term' → IsBuilt scene next kept.means l (substitute p t) term'
  built l t term' h = stays_built scene b next p kept.means kept.means (λ u v e. e) put l t term' h

  unbound_stays : (x l : ℕ) → level_of scene.system.levels x ≡ Some l → b.theta x ≡ leaf (var x) → substitute p (b.trees x) ≡ leaf (var x)
  unbound_stays x l e f =
      ap (substitute p) (kept.unbound x l e f)
      ∙ elsewhere z.name (leaf (var w)) x (λ d. name_not_free scene ask b z rest kept is l (subst (λ n. IsFree b n l) d (kept.levels x l e, f)))

  -- an open variable that stood in bindings still does
  stands_after : (y k x : ℕ) → IsOpen next y k → StandsIn (var y) (b.trees x) → StandsIn (var y) (substitute p (b.trees x))
  stands_after y k x o c =
      subst (λ t. IsSubterm t (substitute p (b.trees x))) (elsewhere z.name (leaf (var w)) y (other_now y k o)) (keeps_subterms (variables_to p) c)

  least_before : (y l : ℕ) → IsOpen next y l → IsInBindings scene b y → (x k : ℕ) × (level_of scene.system.levels x ≡ Some k) × StandsIn (var y) (next.trees x) × (k ≤ l)
  least_before y l o i = let h = kept.least y l (open_before_follow y l o) i in (h.0, h.1, h.2, stands_after y l h.0 o h.3, h.4)

  least_new : (y l : ℕ) → IsOpen next y l → IsInBindings scene next y → ¬ IsInBindings scene b y → (x k : ℕ) × (level_of scene.system.levels x ≡ Some k) × StandsIn (var y) (next.trees x) × (k ≤ l)
  least_new y l o i never =
      (i.0, i.1, i.2, i.3, omega (arith, kept.others y l (open_before_follow y l o) never, below_m i.0 i.1 i.2))

  pub follows_keep : IsKept scene ask next
  follows_keep = record {
    means = kept.means;
    means_sought = λ y c. kept.means_sought y (rest_in scene ask b z rest kept is y c);
    means_free = kept.means_free;
    idempotent = kept.idempotent;
    levelled = kept.levelled;
    distinct = distinct_tail z rest (subst (λ ts. AllPairs (λ (x v : Target). x.name ≢ v.name) ts) is kept.distinct);
    apart = λ y x c. kept.apart y x (rest_in scene ask b z rest kept is y c);
    names = λ y c. elim (kept.names y (rest_in scene ask b z rest kept is y c)) [
      | inl new ↦ inl (still_new scene ask b z rest kept is next refl refl refl y.name new)
      | inr bound ↦ inr (record { level = bound.level; term = bound.term; composed = bound.composed })
    ];
    below_next = λ y l o. kept.below_next y l (open_before_follow y l o);
    new_numbers = λ n h. let k = kept.new_numbers n h in (still_new scene ask b z rest kept is next refl refl refl n k.0, k.1);
    fresh = λ y l o. kept.fresh y l (open_before_follow y l o);
    next_high = kept.next_high;
    levels = kept.levels;
    up_to_m = λ y l o. kept.up_to_m y l (open_before_follow y l o);
    bindings = λ x l e. built l (b.trees x) (leaf (var x)) (kept.bindings x l e);
    answers = λ y c. built y.level (b.trees y.name) y.term (kept.answers y c);
    unbound = unbound_stays;
    least = λ y l o i. elim (in_bindings_or_not scene b y) [ inl k ↦ least_before y l o k | inr k ↦ least_new y l o i k ];
    others = λ y l o never. kept.others y l (open_before_follow y l o) (λ i. never (i.0, i.1, i.2, stands_after y l i.0 o i.3));
  }

-- what is told of each pair of levels is told of each variable's
pub level_meets : (P : ℕ × ℕ → Type 0) (ps : List (ℕ × ℕ)) → All P ps → (x l : ℕ) → level_of ps x ≡ Some l → P (x, l)
level_meets P [] h x l e = cc
level_meets P (p ∷ ps) h x l e =
    elim (same_number p.0 x) [
      | inl d ↦
          let there : Some p.1 ≡ Some l = sym (level_there p.0 p.1 x ps d) ∙ e in
          let same : p.1 ≡ l = cc in
          subst P (λ i. (d i, same i)) (All-head P p ps h)
      | inr d ↦ level_meets P ps (All-tail P p ps h) x l (sym (level_past p x ps d) ∙ e)
    ]

pub level_below_m : (names : ℕ → Type 0) (scene : Scene) → IsValid names scene → (x l : ℕ) → level_of scene.system.levels x ≡ Some l → l ≤ scene.system.m
level_below_m names scene valid x l e = level_meets (λ p. p.1 ≤ scene.system.m) scene.system.levels valid.variables x l e
