-- The start of a search keeps the invariant.
use Rattle.std.proofs.Common.{◌≡◌, ℕ, ◌<◌, ◌≤◌, List, [], ◌∷◌, ◌++◌, map, ◌⊎◌, inl, inr, Option, Some, None, refl, sym, ◌∙◌, ap, arith, subst, Contains, AllPairs}
use Rattle.std.specs.Prelude.{◌≢◌, All, IsSome}
use Rattle.std.specs.List.{flat_map}
use Rattle.dps_terms.specs.Tree.{Leaf, public, private, var, ax, entry, rigid, Tree, Trees, leaf, app, none, more, StandsIn, IsAmong, itself, below, in_first, in_rest}
use Rattle.dps_terms.specs.Replace.{substitute}
use Rattle.dps_terms.specs.Bindings.{image}
use Rattle.dps_terms.specs.Variables.{occurrences, all_occurrences}
use Rattle.dps_terms.specs.Kinds.{IsBuiltOf, AnySymbol}
use Rattle.dps_terms.proofs.Building.{leaf_meets}
use Rattle.dps_unify.specs.Order.{level_of}
use Rattle.dps_unify.specs.Unifier.{IsMgu, IsVariableOf}
use Rattle.dps_unify.proofs.Trees.{in_leaf, substitute_itself}
use Rattle.dps_know.specs.Know.{compositions}
use Rattle.dps_solver.specs.Scene.{Scene, Ask}
use Rattle.dps_solver.specs.declared.scene.Target.{Target}
use Rattle.dps_solver.specs.Solutions.{identity}
use Rattle.dps_solver.specs.Search.{Branch, unbound, first_new, least_above, system_numbers, ask_numbers, entry_numbers, disequation_numbers, with_bound, AreNewlyBound}
use Rattle.dps_directions.specs.Valid.{IsValid, Fits, IsValueLeaf, IsAskLeaf}
use Rattle.dps_directions.proofs.Invariant.{IsOpen, IsTermOf, value_of, sought_for, asked_for, left_of, right_of, IsNew, IsInBindings, IsKept}
use Rattle.dps_directions.proofs.Steps.{StartIsKept}
use Rattle.dps_know.proofs.Listing.{in_cons, in_head, in_tail, in_none, in_left, in_right}
use Rattle.dps_directions.proofs.Following.{same_number, level_past, distinct_head, distinct_tail, level_below_m}
use Rattle.dps_directions.proofs.Lowering.{with_one, with_here, with_else, same_var, same_some}
use Rattle.dps_directions.proofs.Unifying.{unified_keep}
use Rattle.dps_directions.proofs.NewlyBound.{bound_is}

-- numbers of variables
pub below_least : (ns : List ℕ) (n : ℕ) → Contains ns n → n < least_above ns
below_least [] n c = absurd (in_none n c)
below_least (m ∷ ns) n c = elim (in_cons n m ns c) [ inl e ↦ omega (arith, e) | inr k ↦ omega (arith, below_least ns n k) ]

in_occurrences_leaf : (n : ℕ) (x : Leaf) → StandsIn (var n) (leaf x) → Contains (occurrences (leaf x)) n
in_occurrences_leaf n (var m) h = subst (λ k. Contains (m ∷ []) k) (sym (same_var n m (in_leaf (var m) (leaf (var n)) h))) (in_head m [])
in_occurrences_leaf n (public m) h = let e = in_leaf (public m) (leaf (var n)) h in cc
in_occurrences_leaf n (private m) h = let e = in_leaf (private m) (leaf (var n)) h in cc
in_occurrences_leaf n (ax m) h = let e = in_leaf (ax m) (leaf (var n)) h in cc
in_occurrences_leaf n (entry m) h = let e = in_leaf (entry m) (leaf (var n)) h in cc
in_occurrences_leaf n (rigid m) h = let e = in_leaf (rigid m) (leaf (var n)) h in cc

mutual
  pub in_occurrences : (n : ℕ) (t : Tree) → StandsIn (var n) t → Contains (occurrences t) n
  in_occurrences n (leaf x) h = in_occurrences_leaf n x h
  in_occurrences n (app f ts) (below k) = in_all_occurrences n ts k

  in_all_occurrences : (n : ℕ) (ts : Trees) → IsAmong (leaf (var n)) ts → Contains (all_occurrences ts) n
  in_all_occurrences n none h = elim h [ ]
  in_all_occurrences n (more t ts) (in_first k) = in_left n (occurrences t) (all_occurrences ts) (in_occurrences n t k)
  in_all_occurrences n (more t ts) (in_rest k) = in_right n (occurrences t) (all_occurrences ts) (in_all_occurrences n ts k)

pub in_flat : {X Y : Type 0} (f : X → List Y) (xs : List X) (x : X) (n : Y) → Contains xs x → Contains (f x) n → Contains (flat_map f xs) n
in_flat f [] x n c h = absurd (in_none x c)
in_flat f (y ∷ xs) x n c h = elim (in_cons x y xs c) [
  | inl e ↦ in_left n (f y) (flat_map f xs) (subst (λ z. Contains (f z) n) e h)
  | inr k ↦ in_right n (f y) (flat_map f xs) (in_flat f xs x n k h)
]

pub level_number : (ps : List (ℕ × ℕ)) (x l : ℕ) → level_of ps x ≡ Some l → Contains (map (λ (p : ℕ × ℕ). p.0) ps) x
level_number [] x l e = cc
level_number (p ∷ ps) x l e = elim (same_number p.0 x) [
  | inl d ↦ subst (λ n. Contains (map (λ (q : ℕ × ℕ). q.0) (p ∷ ps)) n) d (in_head p.0 (map (λ (q : ℕ × ℕ). q.0) ps))
  | inr d ↦ in_tail x p.0 (map (λ (q : ℕ × ℕ). q.0) ps) (level_number ps x l (sym (level_past p x ps d) ∙ e))
]

pub levels_cases : (o : Option ℕ) → (o ≡ None) ⊎ ((l : ℕ) × (o ≡ Some l))
levels_cases None = inl refl
levels_cases (Some l) = inr (l, refl)

pub some_level : (o : Option ℕ) → IsSome o → (l : ℕ) × (o ≡ Some l)
some_level None h = cc
some_level (Some l) h = (l, refl)

pub all_in : {X : Type 0} (P : X → Type 0) (xs : List X) (x : X) → All P xs → Contains xs x → P x
all_in P xs x h c = subst P c.2 (h c.0 x c.1)

-- what the names of targets mean
abbrev named : List Target → ℕ → Tree
named [] y = leaf (var y)
named (z ∷ zs) y = with_one z.name z.term (named zs) y

named_at : (zs : List Target) (z : Target) → AllPairs (λ (x y : Target). x.name ≢ y.name) zs → Contains zs z → named zs z.name ≡ z.term
named_at [] z a c = absurd (in_none z c)
named_at (y ∷ zs) z a c = elim (in_cons z y zs c) [
  | inl e ↦ with_here y.name y.term (named zs) z.name (ap (λ (t : Target). t.name) (sym e)) ∙ ap (λ (t : Target). t.term) (sym e)
  | inr k ↦ with_else y.name y.term (named zs) z.name (distinct_head y z zs a k) ∙ named_at zs z (distinct_tail y zs a) k
]

named_else : (zs : List Target) (y : ℕ) → ((z : Target) → Contains zs z → z.name ≢ y) → named zs y ≡ leaf (var y)
named_else [] y h = refl
named_else (z ∷ zs) y h = with_else z.name z.term (named zs) y (h z (in_head z zs)) ∙ named_else zs y (λ x c. h x (in_tail x z zs c))

module _ (names : ℕ → Type 0) (scene : Scene) (ask : Ask) (valid : IsValid names scene) (fits : Fits scene ask) where
  abbrev start : Branch
  start = unbound scene ask

  abbrev other_numbers : List ℕ
  other_numbers =
      flat_map entry_numbers scene.system.know.entries
      ++ (flat_map occurrences (compositions scene.system.know)
      ++ (flat_map occurrences scene.system.know.handles ++ (flat_map occurrences scene.system.labels ++ flat_map disequation_numbers scene.system.disequations)))

  abbrev value_numbers : List ℕ
  value_numbers = flat_map occurrences scene.values

  pub level_in : (x l : ℕ) → level_of scene.system.levels x ≡ Some l → Contains (system_numbers scene.system) x
  level_in x l e = in_left x (map (λ (p : ℕ × ℕ). p.0) scene.system.levels) other_numbers (level_number scene.system.levels x l e)

  level_low : (x l : ℕ) → level_of scene.system.levels x ≡ Some l → x < first_new scene ask
  level_low x l e = below_least (system_numbers scene.system ++ (value_numbers ++ ask_numbers ask)) x (in_left x (system_numbers scene.system) (value_numbers ++ ask_numbers ask) (level_in x l e))

  value_low : (n : ℕ) (v : Tree) → Contains scene.values v → StandsIn (var n) v → n < first_new scene ask
  value_low n v c h =
      below_least (system_numbers scene.system ++ (value_numbers ++ ask_numbers ask)) n
      (in_right n (system_numbers scene.system) (value_numbers ++ ask_numbers ask) (in_left n value_numbers (ask_numbers ask) (in_flat occurrences scene.values v n c (in_occurrences n v h))))

  ask_low : (n : ℕ) → Contains (ask_numbers ask) n → n < first_new scene ask
  ask_low n c =
      below_least (system_numbers scene.system ++ (value_numbers ++ ask_numbers ask)) n
      (in_right n (system_numbers scene.system) (value_numbers ++ ask_numbers ask) (in_right n value_numbers (ask_numbers ask) c))

  abbrev pair_numbers : Tree × Tree → List ℕ
  pair_numbers p = occurrences p.0 ++ occurrences p.1

  abbrev target_numbers : Target → List ℕ
  target_numbers z = z.name ∷ occurrences z.term

  target_low : (n : ℕ) (z : Target) → Contains ask.targets z → Contains (target_numbers z) n → n < first_new scene ask
  target_low n z c h = ask_low n (in_right n (flat_map pair_numbers ask.equations) (flat_map target_numbers ask.targets) (in_flat target_numbers ask.targets z n c h))

  pair_low : (n : ℕ) (p : Tree × Tree) → Contains ask.equations p → Contains (pair_numbers p) n → n < first_new scene ask
  pair_low n p c h = ask_low n (in_left n (flat_map pair_numbers ask.equations) (flat_map target_numbers ask.targets) (in_flat pair_numbers ask.equations p n c h))

  pub name_no_level : (z : Target) → Contains ask.targets z → (l : ℕ) → ¬ (level_of scene.system.levels z.name ≡ Some l)
  name_no_level z c l e =
      let low : z.name < z.name = all_in (λ x. x < z.name) (system_numbers scene.system) z.name (fits.above z c) (level_in z.name l e) in
      omega (arith, low)

  no_level : (n : ℕ) → ((l : ℕ) → ¬ (level_of scene.system.levels n ≡ Some l)) → level_of scene.system.levels n ≡ None
  no_level n h = elim (levels_cases (level_of scene.system.levels n)) [ inl e ↦ e | inr e ↦ absurd (h e.0 e.1) ]

  -- no term holds the name of a target
  not_ask_leaf : (z : Target) → Contains ask.targets z → ¬ IsAskLeaf scene ask (var z.name)
  not_ask_leaf z c h = elim h [
    | inl k ↦ let l = some_level (level_of scene.system.levels z.name) k in name_no_level z c l.0 l.1
    | inr k ↦ all_in (λ (y : Target). z.name ≢ y.name) ask.targets z k.0 c refl
  ]

  ask_term_free : (z : Target) (t : Tree) → Contains ask.targets z → IsBuiltOf (IsAskLeaf scene ask) AnySymbol t → ¬ StandsIn (var z.name) t
  ask_term_free z t c b h = not_ask_leaf z c (leaf_meets (IsAskLeaf scene ask) AnySymbol b h)

  target_built : (y : Target) → Contains ask.targets y → IsBuiltOf (IsAskLeaf scene ask) AnySymbol y.term
  target_built y c = all_in (λ (x : Target). IsBuiltOf (IsAskLeaf scene ask) AnySymbol x.term) ask.targets y fits.terms c

  pair_built : (p : Tree × Tree) → Contains ask.equations p → IsBuiltOf (IsAskLeaf scene ask) AnySymbol p.0 × IsBuiltOf (IsAskLeaf scene ask) AnySymbol p.1
  pair_built p c = all_in (λ (q : Tree × Tree). IsBuiltOf (IsAskLeaf scene ask) AnySymbol q.0 × IsBuiltOf (IsAskLeaf scene ask) AnySymbol q.1) ask.equations p fits.equations c

  name_free : (z : Target) → Contains ask.targets z → (t : Tree) → IsTermOf scene ask start t → ¬ StandsIn (var z.name) t
  name_free z c t (value_of k) h =
      let l = some_level (level_of scene.system.levels z.name)
      (leaf_meets (IsValueLeaf scene.system) AnySymbol (all_in (λ v. IsBuiltOf (IsValueLeaf scene.system) AnySymbol v) scene.values t valid.values k) h) in
      name_no_level z c l.0 l.1
  name_free z c t (sought_for {z = y} k) h = ask_term_free z y.term c (target_built y k) h
  name_free z c t (asked_for {z = y} k) h = ask_term_free z y.term c (target_built y k) h
  name_free z c t (left_of {p = p} k) h = ask_term_free z p.0 c (pair_built p k).0 h
  name_free z c t (right_of {p = p} k) h = ask_term_free z p.1 c (pair_built p k).1 h

  term_low : (n : ℕ) (t : Tree) → IsTermOf scene ask start t → StandsIn (var n) t → n < first_new scene ask
  term_low n t (value_of k) h = value_low n t k h
  term_low n t (sought_for {z = y} k) h = target_low n y k (in_tail n y.name (occurrences y.term) (in_occurrences n y.term h))
  term_low n t (asked_for {z = y} k) h = target_low n y k (in_tail n y.name (occurrences y.term) (in_occurrences n y.term h))
  term_low n t (left_of {p = p} k) h = pair_low n p k (in_left n (occurrences p.0) (occurrences p.1) (in_occurrences n p.0 h))
  term_low n t (right_of {p = p} k) h = pair_low n p k (in_right n (occurrences p.0) (occurrences p.1) (in_occurrences n p.1 h))

  others_apart : (n x : ℕ) → x ≢ n → ¬ StandsIn (var n) (leaf (var x))
  others_apart n x d h = d (sym (same_var n x (in_leaf (var x) (leaf (var n)) h)))

  name_new : (z : Target) → Contains ask.targets z → IsNew scene ask start z.name
  name_new z c = record { unbound = refl; no_level = no_level z.name (name_no_level z c); terms = name_free z c }

  number_new : (n : ℕ) → first_new scene ask ≤ n → IsNew scene ask start n
  number_new n h = record {
    unbound = refl;
    no_level = no_level n (λ l e. omega (arith, h, level_low n l e));
    terms = λ t k s. omega (arith, h, term_low n t k s);
  }

  abbrev meaning_of : ℕ → Tree
  meaning_of = named ask.targets

  means_level : (y l : ℕ) → level_of scene.system.levels y ≡ Some l → meaning_of y ≡ leaf (var y)
  means_level y l e = named_else ask.targets y (λ z c d. name_no_level z c l (subst (λ n. level_of scene.system.levels n ≡ Some l) (sym d) e))

  level_m : (z : Target) → Contains ask.targets z → z.level ≡ scene.system.m
  level_m z c = all_in (λ (y : Target). y.level ≡ scene.system.m) ask.targets z fits.levels c

  scene_level : (y l x k : ℕ) → IsOpen start y l → level_of scene.system.levels x ≡ Some k → x ≡ y → k ≡ l
  scene_level y l x k (inl q) e d = absurd (name_no_level q.0 q.1 k (subst (λ n. level_of scene.system.levels n ≡ Some k) (d ∙ sym q.2) e))
  scene_level y l x k (inr f) e d = same_some k l (sym e ∙ ap (level_of scene.system.levels) d ∙ f.0)

  pub unbound_kept : IsKept scene ask start
  unbound_kept = record {
    means = meaning_of;
    means_sought = λ z c. ap (substitute identity) (named_at ask.targets z fits.distinct c);
    means_free = λ y l f. means_level y l f.0;
    idempotent = λ x. refl;
    levelled = λ x l y e f. (l, subst (λ n. level_of scene.system.levels n ≡ Some l) (same_var x y f) e, omega arith);
    distinct = fits.distinct;
    apart = λ z x c d. others_apart z.name x d;
    names = λ z c. inl (name_new z c);
    below_next = below;
    new_numbers = λ n h. (number_new n h, λ x d. others_apart n x d);
    fresh = fresh;
    next_high = λ x c. below_least (system_numbers scene.system ++ (value_numbers ++ ask_numbers ask)) x (in_left x (system_numbers scene.system) (value_numbers ++ ask_numbers ask) c);
    levels = λ x l e. e;
    up_to_m = up;
    bindings = λ x l e. record { leaves = (l, inr (e, refl), omega arith); means_it = ap (substitute identity) (means_level x l e) };
    answers = λ z c. record { leaves = (z.level, inl (z, c, refl, refl), omega arith); means_it = ap (substitute identity) (named_at ask.targets z fits.distinct c) };
    unbound = λ x l e f. refl;
    least = λ y l o i. (i.0, i.1, i.2, i.3, omega (arith, scene_level y l i.0 i.1 o i.2 (sym (same_var y i.0 (in_leaf (var i.0) (leaf (var y)) i.3)))));
    others = others;
  }
    where
      below : (y l : ℕ) → IsOpen start y l → y < first_new scene ask
      below y l (inl q) = subst (λ n. n < first_new scene ask) q.2 (target_low q.0.name q.0 q.1 (in_head q.0.name (occurrences q.0.term)))
      below y l (inr f) = level_low y l f.0

      fresh : (y l : ℕ) → IsOpen start y l → ((k : ℕ) × (level_of scene.system.levels y ≡ Some k)) ⊎ ((x : ℕ) → Contains (system_numbers scene.system) x → x < y)
      fresh y l (inl q) = inr (λ x c. omega (arith, q.2, all_in (λ n. n < q.0.name) (system_numbers scene.system) x (fits.above q.0 q.1) c))
      fresh y l (inr f) = inl (l, f.0)

      up : (y l : ℕ) → IsOpen start y l → l ≤ scene.system.m
      up y l (inl q) = omega (arith, level_m q.0 q.1, q.3)
      up y l (inr f) = level_below_m names scene valid y l f.0

      others : (y l : ℕ) → IsOpen start y l → ¬ IsInBindings scene start y → l ≡ scene.system.m
      others y l (inl q) never = sym q.3 ∙ level_m q.0 q.1
      others y l (inr f) never = absurd (never (y, l, f.0, itself))

  pub inside : (n : ℕ) → IsVariableOf ask.equations n → (t : Tree) × IsTermOf scene ask start t × StandsIn (var n) (substitute identity t)
  inside n (k, p, l, e, h) =
      let c : Contains ask.equations p = (k, l, e) in
      elim h [
        | inl s ↦ (p.0, left_of c, subst (λ t. StandsIn (var n) t) (sym (substitute_itself p.0)) s)
        | inr s ↦ (p.1, right_of c, subst (λ t. StandsIn (var n) t) (sym (substitute_itself p.1)) s)
      ]

  pub start_kept : (u : List (ℕ × Tree)) (ps : List (ℕ × ℕ)) → IsMgu scene.system.levels ask.equations u
      → AreNewlyBound scene.system.levels identity (image u) ps → IsKept scene ask (with_bound ps (record (unbound scene ask) { theta = image u }))
  start_kept u ps mgu newly =
      subst (IsKept scene ask) (sym (bound_is ps (record (unbound scene ask) { theta = image u })))
      (unified_keep scene ask start unbound_kept u ask.equations mgu inside ps newly ask.targets identity
      (λ y c. c) fits.distinct (λ y k h. refl) (λ y k f. refl)
      (λ y k o. elim o [ inl h ↦ inl h | inr f ↦ inr (inl f) ])
      (level_below_m names scene valid))

pub start_is_kept : (names : ℕ → Type 0) (scene : Scene) (ask : Ask) → StartIsKept names scene ask
start_is_kept names scene ask = λ u ps valid fits mgu newly. start_kept names scene ask valid fits u ps mgu newly
