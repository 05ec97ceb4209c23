-- The first target's tree is composed.
use Rattle.std.proofs.Common.{
  ◌≡◌,
  ℕ,
  zero,
  suc,
  ◌+◌,
  ◌<◌,
  ◌≤◌,
  List,
  [],
  ◌∷◌,
  ◌++◌,
  length,
  map,
  ◌⊎◌,
  inl,
  inr,
  Some,
  refl,
  sym,
  ◌∙◌,
  ap,
  arith,
  subst,
  Contains,
  AllPairs,
  slice_index_or,
  Bool,
  true,
  false,
}
use Rattle.std.specs.Prelude.{◌≢◌, All, nat_eq, nat_le, if◌then◌else◌, ⊤}
use Rattle.std.specs.List.{range_with_len}
use Rattle.std.proofs.lemmas.List.{get_or_default}
use Rattle.std.proofs.lemmas.List.Kept.{AllPairs-cons}
use Rattle.std.proofs.lemmas.Bool.{eqb-true}
use Rattle.dps_terms.specs.Tree.{Leaf, public, private, var, ax, entry, rigid, Tree, Trees, leaf, app, none, more, list_of, trees, StandsIn, IsSubterm, IsAmong, itself, below, in_first, in_rest}
use Rattle.dps_terms.specs.Replace.{replace, replace_all, substitute, variables_to}
use Rattle.dps_terms.specs.Views.{arguments}
use Rattle.dps_terms.specs.Bindings.{image}
use Rattle.dps_terms.specs.Kinds.{IsBuiltOf, AreBuiltOf, AnySymbol}
use Rattle.dps_terms.proofs.Replacing.{keeps_subterms}
use Rattle.dps_terms.proofs.Subterms.{nested}
use Rattle.dps_unify.specs.Order.{level_of}
use Rattle.dps_unify.proofs.Bound.{single}
use Rattle.dps_unify.proofs.Trees.{in_leaf, substitute_in_turn, substitute_agrees}
use Rattle.dps_know.specs.declared.know.Entry.{Entry}
use Rattle.dps_solver.specs.Scene.{System, Scene, Ask}
use Rattle.dps_solver.specs.declared.scene.Target.{Target}
use Rattle.dps_solver.specs.Search.{Branch, Way, follow, use_entry, compose, ways, entry_ways, root_over, argument_targets, composed}
use Rattle.dps_directions.proofs.Invariant.{IsFree, IsOpen, IsBuiltLeaf, meaning, IsBuilt, IsTermOf, value_of, sought_for, asked_for, left_of, right_of, IsNew, IsBoundTo, IsInBindings, IsKept}
use Rattle.dps_solver.proofs.Bindings.{here, elsewhere}
use Rattle.dps_know.proofs.Listing.{in_cons, in_head, in_tail, in_none, in_left, in_right, in_append}
use Rattle.dps_directions.proofs.Following.{same_number, in_bindings_or_not, stays_built, built_for, distinct_tail, distinct_head, first_in, rest_in, name_not_free, open_cases}
use Rattle.dps_directions.proofs.Lowering.{with_one, with_here, with_else, not_under, same_var, le_or_gt}

-- the targets of arguments, from a number on, and what their names mean
abbrev pub kids : Target → ℕ → List Tree → List Target
kids z n ts = argument_targets z (range_with_len n (length ts)) ts

abbrev pub given : ℕ → List Tree → (ℕ → Tree) → ℕ → Tree
given n [] f = f
given n (t ∷ ts) f = with_one n t (given (n + 1) ts f)

pub record IsKid (z : Target) (n : ℕ) (ts : List Tree) (f : ℕ → Tree) (y : Target) : Type 0 where
  pub from : n ≤ y.name
  pub until : y.name < n + length ts
  pub level : y.level ≡ z.level
  pub means : given n ts f y.name ≡ y.term
  pub among : Contains ts y.term

kid_first : (z : Target) (n : ℕ) (t : Tree) (ts : List Tree) (f : ℕ → Tree) (y : Target) → y ≡ record { name = n; level = z.level; term = t } → IsKid z n (t ∷ ts) f y
kid_first z n t ts f y e =
    subst (IsKid z n (t ∷ ts) f) (sym e)
    (record { from = omega arith; until = omega arith; level = refl; means = with_here n t (given (n + 1) ts f) n refl; among = in_head t ts })

kid_later : (z : Target) (n : ℕ) (t : Tree) (ts : List Tree) (f : ℕ → Tree) (y : Target) → IsKid z (n + 1) ts f y → IsKid z n (t ∷ ts) f y
kid_later z n t ts f y k = record {
  from = omega (arith, k.from);
  until = omega (arith, k.until);
  level = k.level;
  means = with_else n t (given (n + 1) ts f) y.name (λ e. omega (arith, e, k.from)) ∙ k.means;
  among = in_tail y.term t ts k.among;
}

pub is_kid : (z : Target) (n : ℕ) (ts : List Tree) (f : ℕ → Tree) (y : Target) → Contains (kids z n ts) y → IsKid z n ts f y
is_kid z n [] f y c = absurd (in_none y c)
is_kid z n (t ∷ ts) f y c = elim (in_cons y (record { name = n; level = z.level; term = t }) (kids z (n + 1) ts) c) [
  | inl e ↦ kid_first z n t ts f y e
  | inr k ↦ kid_later z n t ts f y (is_kid z (n + 1) ts f y k)
]

pub given_before : (n : ℕ) (ts : List Tree) (f : ℕ → Tree) (y : ℕ) → y < n → given n ts f y ≡ f y
given_before n [] f y h = refl
given_before n (t ∷ ts) f y h = with_else n t (given (n + 1) ts f) y (λ e. omega (arith, e, h)) ∙ given_before (n + 1) ts f y (omega (arith, h))

pub all_of : {X : Type 0} (P : X → Type 0) (xs : List X) → ((x : X) → Contains xs x → P x) → All P xs
all_of P xs f k d l = f (slice_index_or xs k d) (k, l, get_or_default xs k (slice_index_or xs k d) d l)

distinct_kids : (z : Target) (n : ℕ) (ts : List Tree) (rest : List Target) → ((y : Target) → Contains rest y → y.name < n)
    → AllPairs (λ (x y : Target). x.name ≢ y.name) rest → AllPairs (λ (x y : Target). x.name ≢ y.name) (kids z n ts ++ rest)
distinct_kids z n [] rest low h = h
distinct_kids z n (t ∷ ts) rest low h =
    AllPairs-cons (λ (x y : Target). x.name ≢ y.name) (record { name = n; level = z.level; term = t }) (kids z (n + 1) ts ++ rest)
    (all_of (λ (y : Target). n ≢ y.name) (kids z (n + 1) ts ++ rest) others) (distinct_kids z (n + 1) ts rest (λ y c. omega (arith, low y c)) h)
  where
    others : (y : Target) → Contains (kids z (n + 1) ts ++ rest) y → n ≢ y.name
    others y c e = elim (in_append y (kids z (n + 1) ts) rest c) [
      | inl k ↦ let i = is_kid z (n + 1) ts (λ x. leaf (var x)) y k in omega (arith, i.from, e)
      | inr k ↦ omega (arith, low y k, e)
    ]

-- the trees that are composed
abbrev pub names_as_trees : ℕ → ℕ → Trees
names_as_trees n k = trees (map (λ i. leaf (var i)) (range_with_len n k))

pub names_mean : (m : Leaf → Tree) (n : ℕ) (ts : Trees) (f : ℕ → Tree) → ((y : ℕ) → n ≤ y → y < n + length (list_of ts) → m (var y) ≡ given n (list_of ts) f y)
    → replace_all m (names_as_trees n (length (list_of ts))) ≡ ts
names_mean m n none f h = refl
names_mean m n (more t ts) f h =
    let first : m (var n) ≡ t = h n (omega arith) (omega arith) ∙ with_here n t (given (n + 1) (list_of ts) f) n refl in
    let rest = names_mean m (n + 1) ts f (λ y l k. h y (omega (arith, l)) (omega (arith, k)) ∙ with_else n t (given (n + 1) (list_of ts) f) y (λ e. omega (arith, e, l))) in
    λ i. more (first i) (rest i)

names_built : (L : Leaf → Type 0) (n k : ℕ) → ((y : ℕ) → n ≤ y → y < n + k → L (var y)) → AreBuiltOf L AnySymbol (names_as_trees n k)
names_built L n zero h = tt
names_built L n (suc k) h = (h n (omega arith) (omega arith), names_built L (n + 1) k (λ y l m. h y (omega (arith, l)) (omega (arith, m))))

name_among : (y n k : ℕ) → n ≤ y → y < n + k → IsAmong (leaf (var y)) (names_as_trees n k)
name_among y n zero l m = absurd (omega (arith, l, m))
name_among y n (suc k) l m = elim (same_number n y) [
  | inl e ↦ in_first (subst (λ i. StandsIn (var y) (leaf (var i))) (sym e) itself)
  | inr d ↦ in_rest (name_among y (n + 1) k (next_le n y l d) (omega (arith, m)))
]
  where
    next_le : (i j : ℕ) → i ≤ j → i ≢ j → i + 1 ≤ j
    next_le i j a d = elim (le_or_gt j i) [ inl b ↦ absurd (d (omega (arith, a, b))) | inr b ↦ omega (arith, b) ]

-- which of the arguments has a number
numbered_kid : (z : Target) (n : ℕ) (ts : List Tree) (y : ℕ) → n ≤ y → y < n + length ts → (x : Target) × Contains (kids z n ts) x × (x.name ≡ y) × (x.level ≡ z.level)
numbered_kid z n [] y l m = absurd (omega (arith, l, m))
numbered_kid z n (t ∷ ts) y l m = elim (same_number n y) [
  | inl e ↦ (record { name = n; level = z.level; term = t }, in_head (record { name = n; level = z.level; term = t }) (kids z (n + 1) ts), e, refl)
  | inr d ↦
      let below : n + 1 ≤ y = elim (le_or_gt y n) [ inl b ↦ absurd (d (omega (arith, l, b))) | inr b ↦ omega (arith, b) ] in
      let k = numbered_kid z (n + 1) ts y below (omega (arith, m)) in
      (k.0, in_tail k.0 (record { name = n; level = z.level; term = t }) (kids z (n + 1) ts) k.1, k.2, k.3)
]

-- an argument's variables
in_argument : (x : Leaf) (ts : Trees) (u : Tree) → Contains (list_of ts) u → StandsIn x u → IsAmong (leaf x) ts
in_argument x none u c h = absurd (in_none u c)
in_argument x (more t ts) u c h = elim (in_cons u t (list_of ts) c) [
  | inl e ↦ in_first (subst (λ v. StandsIn x v) e h)
  | inr k ↦ in_rest (in_argument x ts u k h)
]

pub stands_in_whole : (x : Leaf) (t u : Tree) → Contains (arguments t) u → StandsIn x u → StandsIn x t
stands_in_whole x (leaf y) u c h = absurd (in_none u c)
stands_in_whole x (app f ts) u c h = below (in_argument x ts u c h)

-- the root is one that is composed
abbrev pub IsComposable : ℕ → ℕ → Tree → Type 0
IsComposable m l (leaf (public n)) = ⊤
IsComposable m l (leaf (rigid k)) = m ≤ l
IsComposable m l (leaf (private n)) = ⊥
IsComposable m l (leaf (var n)) = ⊥
IsComposable m l (leaf (ax n)) = ⊥
IsComposable m l (leaf (entry n)) = ⊥
IsComposable m l (app f ts) = ⊤

entry_first : (b : Bool) (i : ℕ) (ws : List Way) → ¬ Contains ws compose → ¬ Contains (if b then use_entry i ∷ ws else ws) compose
entry_first false i ws h c = h c
entry_first true i ws h c = elim (in_cons compose (use_entry i) ws c) [ inl d ↦ cc | inr j ↦ h j ]

not_compose : (l i : ℕ) (es : List Entry) → ¬ Contains (entry_ways l i es) compose
not_compose l i [] c = in_none compose c
not_compose l i (e ∷ es) c = entry_first (nat_le e.level l) i (entry_ways l (i + 1) es) (not_compose l (i + 1) es) c

rigid_way : (m l k : ℕ) (b : Bool) → nat_eq l m ≡ b → Contains (if b then compose ∷ [] else []) compose → m ≤ l
rigid_way m l k true e c = omega (arith, eqb-true l m e)
rigid_way m l k false e c = absurd (in_none compose c)

pub composable : (system : System) (l : ℕ) (t : Tree) → Contains (ways system l t) compose → IsComposable system.m l t
composable system l (leaf (var w)) c = elim (in_cons compose follow [] c) [ inl e ↦ cc | inr k ↦ absurd (in_none compose k) ]
composable system l (leaf (public n)) c = tt
composable system l (leaf (rigid k)) c =
    elim (in_append compose (entry_ways l 1 system.know.entries) (if nat_eq l system.m then compose ∷ [] else []) c) [
      | inl h ↦ absurd (not_compose l 1 system.know.entries h)
      | inr h ↦ rigid_way system.m l k (nat_eq l system.m) refl h
    ]
composable system l (leaf (private n)) c = not_compose l 1 system.know.entries c
composable system l (leaf (ax n)) c = not_compose l 1 system.know.entries c
composable system l (leaf (entry n)) c = not_compose l 1 system.know.entries c
composable system l (app f ts) c = tt

module _ (scene : Scene) (ask : Ask) (b : Branch) (z : Target) (rest : List Target) (kept : IsKept scene ask b) (is : b.targets ≡ z ∷ rest)
    (root : IsComposable scene.system.m z.level (substitute b.theta z.term)) (below_m : (x l : ℕ) → level_of scene.system.levels x ≡ Some l → l ≤ scene.system.m) where
  abbrev t : Tree
  t = substitute b.theta z.term

  abbrev next : Branch
  next = composed b z rest t

  abbrev size : ℕ
  size = length (arguments t)

  abbrev tree : Tree
  tree = root_over t (range_with_len b.next size)

  abbrev p : ℕ → Tree
  p = image (single z.name tree)

  abbrev after : ℕ → Tree
  after = given b.next (arguments t) kept.means

  first : Contains b.targets z
  first = first_in scene ask b z rest kept is

  distinct_all : AllPairs (λ (x v : Target). x.name ≢ v.name) (z ∷ rest)
  distinct_all = subst (λ ts. AllPairs (λ (x v : Target). x.name ≢ v.name) ts) is kept.distinct

  rest_low : (y : Target) → Contains rest y → y.name < b.next
  rest_low y c = kept.below_next y.name y.level (inl (y, rest_in scene ask b z rest kept is y c, refl, refl))

  kid : (y : Target) → Contains (kids z b.next (arguments t)) y → IsKid z b.next (arguments t) kept.means y
  kid y c = is_kid z b.next (arguments t) kept.means y c

  -- an open variable is new, or was open before
  open_cases_now : (y l : ℕ) → IsOpen next y l → ((b.next ≤ y) × (y < b.next + size) × (l ≡ z.level)) ⊎ ((y ≢ z.name) × IsOpen b y l)
  open_cases_now y l (inl q) = elim (in_append q.0 (kids z b.next (arguments t)) rest q.1) [
    | inl c ↦ let k = kid q.0 c in inl (omega (arith, q.2, k.from), omega (arith, q.2, k.until), sym q.3 ∙ k.level)
    | inr c ↦ inr (λ d. distinct_head z q.0 rest distinct_all c (sym d ∙ sym q.2), inl (q.0, rest_in scene ask b z rest kept is q.0 c, q.2, q.3))
  ]
  open_cases_now y l (inr f) = inr (λ d. name_not_free scene ask b z rest kept is l (subst (λ n. IsFree b n l) d f), inr f)

  open_new : (y : ℕ) → b.next ≤ y → y < b.next + size → IsOpen next y z.level
  open_new y l m = let k = numbered_kid z b.next (arguments t) y l m in inl (k.0, in_left k.0 (kids z b.next (arguments t)) rest k.1, k.2, k.3)

  -- the composed tree means the target's term
  leaves_at : (u : Tree) → IsComposable scene.system.m z.level u → u ≡ t → IsBuiltOf (IsBuiltLeaf scene next z.level) AnySymbol (root_over u (range_with_len b.next size))
  leaves_at (leaf (public n)) r e = tt
  leaves_at (leaf (rigid k)) r e = r
  leaves_at (leaf (private n)) r e = absurd r
  leaves_at (leaf (var n)) r e = absurd r
  leaves_at (leaf (ax n)) r e = absurd r
  leaves_at (leaf (entry n)) r e = absurd r
  leaves_at (app f ts) r e = (tt, names_built (IsBuiltLeaf scene next z.level) b.next size (λ y l m. (z.level, open_new y l m, omega arith)))

  means_at : (u : Tree) → IsComposable scene.system.m z.level u → replace (meaning scene (given b.next (arguments u) kept.means)) (root_over u (range_with_len b.next (length (arguments u)))) ≡ u
  means_at (leaf (public n)) r = refl
  means_at (leaf (rigid k)) r = refl
  means_at (leaf (private n)) r = absurd r
  means_at (leaf (var n)) r = absurd r
  means_at (leaf (ax n)) r = absurd r
  means_at (leaf (entry n)) r = absurd r
  means_at (app f ts) r = ap (app f) (names_mean (meaning scene (given b.next (list_of ts) kept.means)) b.next ts kept.means (λ y l m. refl))

  idempotent_at : (u : Tree) → substitute b.theta (substitute b.theta u) ≡ substitute b.theta u
  idempotent_at u = substitute_in_turn b.theta b.theta u ∙ substitute_agrees (λ x. substitute b.theta (b.theta x)) b.theta u (λ x k. kept.idempotent x)

  pub put_z : IsBuilt scene next after z.level tree z.term
  put_z = record { leaves = leaves_at t root refl; means_it = ap (substitute b.theta) (means_at t root) ∙ idempotent_at z.term }

  after_low : (y : ℕ) → y < b.next → after y ≡ kept.means y
  after_low y l = given_before b.next (arguments t) kept.means y l

  open_after : (y k : ℕ) → ((x : Target) × Contains rest x × (x.name ≡ y) × (x.level ≡ k)) ⊎ IsFree b y k → IsOpen next y k
  open_after y k (inl q) = inl (q.0, in_right q.0 (kids z b.next (arguments t)) rest q.1, q.2, q.3)
  open_after y k (inr f) = inr f

  put_other : (y k : ℕ) → IsOpen b y k → IsOpen next y k → IsBuilt scene next after k (leaf (var y)) (kept.means y)
  put_other y k o n = record { leaves = (k, n, omega arith); means_it = ap (substitute b.theta) (after_low y (kept.below_next y k o)) }

  put : (y k : ℕ) → IsOpen b y k → IsBuilt scene next after k (p y) (kept.means y)
  put y k o = elim (open_cases scene ask b z rest kept is y k o) [
    | inl d ↦
        subst (λ n. IsBuilt scene next after n (p y) (kept.means y)) (sym d.1)
        (subst (λ n. IsBuilt scene next after z.level (p n) (kept.means n)) (sym d.0)
        (subst (λ u. IsBuilt scene next after z.level u (kept.means z.name)) (sym (here z.name tree))
        (built_for scene next after z.level tree z.term (kept.means z.name) put_z (sym (kept.means_sought z first)))))
    | inr d ↦ subst (λ u. IsBuilt scene next after k u (kept.means y)) (sym (elsewhere z.name tree y d.0)) (put_other y k o (open_after y k d.1))
  ]

  built : (l : ℕ) (u v : Tree) → IsBuilt scene b kept.means l u v → IsBuilt scene next after l (substitute p u) v
  built l u v h = stays_built scene b next p kept.means after (λ x y e. e) put l u v h

  -- where variables stand
  stands_after : (y x : ℕ) → y ≢ z.name → StandsIn (var y) (b.trees x) → StandsIn (var y) (substitute p (b.trees x))
  stands_after y x d c = subst (λ u. IsSubterm u (substitute p (b.trees x))) (elsewhere z.name tree y d) (keeps_subterms (variables_to p) c)

  in_tree : (u : Tree) (y : ℕ) → b.next ≤ y → y < b.next + length (arguments u) → StandsIn (var y) (root_over u (range_with_len b.next (length (arguments u))))
  in_tree (leaf x) y l m = absurd (omega (arith, l, m))
  in_tree (app f ts) y l m = below (name_among y b.next (length (list_of ts)) l m)

  stands_new : (y x : ℕ) → b.next ≤ y → y < b.next + size → StandsIn (var z.name) (b.trees x) → StandsIn (var y) (substitute p (b.trees x))
  stands_new y x l m c = nested (in_tree t y l m) (subst (λ u. IsSubterm u (substitute p (b.trees x))) (here z.name tree) (keeps_subterms (variables_to p) c))

  least_now : (y l : ℕ) → IsOpen next y l → IsInBindings scene next y → (x k : ℕ) × (level_of scene.system.levels x ≡ Some k) × StandsIn (var y) (next.trees x) × (k ≤ l)
  least_now y l o i = elim (open_cases_now y l o) [
    | inl n ↦ elim (in_bindings_or_not scene b z.name) [
      | inl j ↦ let h = kept.least z.name z.level (inl (z, first, refl, refl)) j in (h.0, h.1, h.2, stands_new y h.0 n.0 n.1 h.3, omega (arith, h.4, n.2))
      | inr never ↦ (i.0, i.1, i.2, i.3, omega (arith, n.2, kept.others z.name z.level (inl (z, first, refl, refl)) never, below_m i.0 i.1 i.2))
    ]
    | inr n ↦ elim (in_bindings_or_not scene b y) [
      | inl j ↦ let h = kept.least y l n.1 j in (h.0, h.1, h.2, stands_after y h.0 n.0 h.3, h.4)
      | inr never ↦ (i.0, i.1, i.2, i.3, omega (arith, kept.others y l n.1 never, below_m i.0 i.1 i.2))
    ]
  ]

  others_now : (y l : ℕ) → IsOpen next y l → ¬ IsInBindings scene next y → l ≡ scene.system.m
  others_now y l o never = elim (open_cases_now y l o) [
    | inl n ↦ n.2 ∙ kept.others z.name z.level (inl (z, first, refl, refl)) (λ j. never (j.0, j.1, j.2, stands_new y j.0 n.0 n.1 j.3))
    | inr n ↦ kept.others y l n.1 (λ j. never (j.0, j.1, j.2, stands_after y j.0 n.0 j.3))
  ]

  -- new names stay new
  not_in_kid : (n : ℕ) → IsNew scene ask b n → ((x : ℕ) → x ≢ n → ¬ StandsIn (var n) (b.theta x)) → (u : Tree) → Contains (arguments t) u → ¬ StandsIn (var n) u
  not_in_kid n new apart u c h = not_under scene ask b n new apart z.term (sought_for first) (stands_in_whole (var n) t u c h)

  not_in_term : (n : ℕ) → IsNew scene ask b n → ((x : ℕ) → x ≢ n → ¬ StandsIn (var n) (b.theta x)) → (u : Tree) → IsTermOf scene ask next u → ¬ StandsIn (var n) u
  not_in_term n new apart u (value_of h) = new.terms u (value_of h)
  not_in_term n new apart u (sought_for {z = y} h) = elim (in_append y (kids z b.next (arguments t)) rest h) [
    | inl c ↦ not_in_kid n new apart y.term (kid y c).among
    | inr c ↦ new.terms y.term (sought_for (rest_in scene ask b z rest kept is y c))
  ]
  not_in_term n new apart u (asked_for h) = new.terms u (asked_for h)
  not_in_term n new apart u (left_of h) = new.terms u (left_of h)
  not_in_term n new apart u (right_of h) = new.terms u (right_of h)

  still_new : (n : ℕ) → IsNew scene ask b n → ((x : ℕ) → x ≢ n → ¬ StandsIn (var n) (b.theta x)) → IsNew scene ask next n
  still_new n new apart = record { unbound = new.unbound; no_level = new.no_level; terms = not_in_term n new apart }

  names_now : (y : Target) → Contains (kids z b.next (arguments t) ++ rest) y → IsNew scene ask next y.name ⊎ IsBoundTo scene next y
  names_now y c = elim (in_append y (kids z b.next (arguments t)) rest c) [
    | inl k ↦ let n = kept.new_numbers y.name (kid y k).from in inl (still_new y.name n.0 n.1)
    | inr k ↦ elim (kept.names y (rest_in scene ask b z rest kept is y k)) [
      | inl new ↦ inl (still_new y.name new (λ x d. kept.apart y x (rest_in scene ask b z rest kept is y k) d))
      | inr bound ↦ inr (record { level = bound.level; term = bound.term; composed = bound.composed })
    ]
  ]

  means_now : (y : Target) → Contains (kids z b.next (arguments t) ++ rest) y → substitute b.theta (after y.name) ≡ substitute b.theta y.term
  means_now y c = elim (in_append y (kids z b.next (arguments t)) rest c) [
    | inl k ↦ ap (substitute b.theta) (kid y k).means
    | inr k ↦ ap (substitute b.theta) (after_low y.name (rest_low y k)) ∙ kept.means_sought y (rest_in scene ask b z rest kept is y k)
  ]

  apart_now : (y : Target) (x : ℕ) → Contains (kids z b.next (arguments t) ++ rest) y → x ≢ y.name → ¬ StandsIn (var y.name) (b.theta x)
  apart_now y x c d = elim (in_append y (kids z b.next (arguments t)) rest c) [
    | inl k ↦ (kept.new_numbers y.name (kid y k).from).1 x d
    | inr k ↦ kept.apart y x (rest_in scene ask b z rest kept is y k) d
  ]

  unbound_now : (x l : ℕ) → level_of scene.system.levels x ≡ Some l → b.theta x ≡ leaf (var x) → substitute p (b.trees x) ≡ leaf (var x)
  unbound_now x l e f =
      ap (substitute p) (kept.unbound x l e f)
      ∙ elsewhere z.name tree x (λ d. name_not_free scene ask b z rest kept is l (subst (λ n. IsFree b n l) d (kept.levels x l e, f)))

  pub composes_keep : IsKept scene ask next
  composes_keep = record {
    means = after;
    means_sought = means_now;
    means_free = λ y l f. after_low y (kept.below_next y l (inr f)) ∙ kept.means_free y l f;
    idempotent = kept.idempotent;
    levelled = kept.levelled;
    distinct = distinct_kids z b.next (arguments t) rest rest_low (distinct_tail z rest distinct_all);
    apart = apart_now;
    names = names_now;
    below_next = λ y l o. elim (open_cases_now y l o) [ inl n ↦ n.1 | inr n ↦ omega (arith, kept.below_next y l n.1) ];
    new_numbers = λ n h. let k = kept.new_numbers n (omega (arith, h)) in (still_new n k.0 k.1, k.1);
    fresh = λ y l o. elim (open_cases_now y l o) [ inl n ↦ inr (λ x c. omega (arith, n.0, kept.next_high x c)) | inr n ↦ kept.fresh y l n.1 ];
    next_high = λ x c. omega (arith, kept.next_high x c);
    levels = kept.levels;
    up_to_m = λ y l o. elim (open_cases_now y l o) [
      | inl n ↦ omega (arith, n.2, kept.up_to_m z.name z.level (inl (z, first, refl, refl)))
      | inr n ↦ kept.up_to_m y l n.1
    ];
    bindings = λ x l e. built l (b.trees x) (leaf (var x)) (kept.bindings x l e);
    answers = λ y c. built y.level (b.trees y.name) y.term (kept.answers y c);
    unbound = unbound_now;
    least = least_now;
    others = others_now;
  }
