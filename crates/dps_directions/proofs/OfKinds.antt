-- Unification, and so the search, makes no leaves and symbols but those of what it is given.
use Rattle.std.proofs.Common.{◌≡◌, ℕ, zero, suc, ◌+◌, List, [], ◌∷◌, map, length, ◌⊎◌, inl, inr, Option, None, Some, refl, sym, ◌∙◌, ap, arith, subst, Contains}
use Rattle.std.specs.Prelude.{slice_get, unwrap_or}
use Rattle.std.specs.List.{range_with_len}
use Rattle.dps_terms.specs.declared.Sym.{Sym}
use Rattle.dps_terms.specs.Tree.{Leaf, public, private, var, ax, entry, rigid, Tree, Trees, leaf, app, none, more, list_of, trees, count, StandsIn}
use Rattle.dps_terms.specs.Replace.{substitute, substitute_all, variables_to, numbered}
use Rattle.dps_terms.specs.Views.{arguments}
use Rattle.dps_terms.specs.Bindings.{image}
use Rattle.dps_terms.specs.Kinds.{IsBuiltOf, AreBuiltOf}
use Rattle.dps_terms.proofs.Building.{built_instance, count-replace_all}
use Rattle.dps_unify.specs.Unifier.{Unifies, IsMgu}
use Rattle.dps_unify.proofs.Bound.{single}
use Rattle.dps_know.proofs.Listing.{in_cons, in_none, in_append}
use Rattle.dps_solver.specs.Scene.{Scene, Ask}
use Rattle.dps_solver.specs.declared.scene.Target.{Target}
use Rattle.dps_solver.specs.Solutions.{identity}
use Rattle.dps_solver.specs.Search.{Branch, Way, Leads, follows, lowers, uses, composes, with_tree, with_bound, lowered, composed, root_over, unbound, entry_equation}
use Rattle.dps_solver.proofs.Bindings.{here, elsewhere}
use Rattle.dps_directions.specs.Made.{AreGiven}
use Rattle.dps_directions.proofs.Following.{same_number}
use Rattle.dps_directions.proofs.Composing.{all_of, kids, is_kid}
use Rattle.dps_directions.proofs.NewlyBound.{move, moves, new_targets, is_new, after_all, bound_is}
use Rattle.dps_directions.proofs.Ways.{slice_contains}
use Rattle.dps_directions.proofs.Respecting.{pick, pick_there}
use Rattle.dps_directions.proofs.Beginning.{all_in}

-- what is put for newly bound variables are variables
is_variable : (x v y : ℕ) → (k : ℕ) × (image (single x (leaf (var v))) y ≡ leaf (var k))
is_variable x v y = elim (same_number y x) [
  | inl e ↦ (v, ap (image (single x (leaf (var v)))) e ∙ here x (leaf (var v)))
  | inr d ↦ (y, elsewhere x (leaf (var v)) y d)
]

move_is_variable : (t : Tree) (x y : ℕ) → (k : ℕ) × (move t x y ≡ leaf (var k))
move_is_variable (leaf (var v)) x y = is_variable x v y
move_is_variable (leaf (public n)) x y = (y, refl)
move_is_variable (leaf (private n)) x y = (y, refl)
move_is_variable (leaf (ax n)) x y = (y, refl)
move_is_variable (leaf (entry n)) x y = (y, refl)
move_is_variable (leaf (rigid n)) x y = (y, refl)
move_is_variable (app f ts) x y = (y, refl)

moves_are_variables : (th : ℕ → Tree) (ps : List (ℕ × ℕ)) (y : ℕ) → (k : ℕ) × (moves th ps y ≡ leaf (var k))
moves_are_variables th [] y = (y, refl)
moves_are_variables th (p ∷ ps) y =
    let m = move_is_variable (th p.0) p.0 y in
    let r = moves_are_variables th ps m.0 in
    (r.0, ap (substitute (moves th ps)) m.1 ∙ r.1)

-- which leaves and symbols may stand; variables and entries may
pub record Kinds (L : Leaf → Type 0) (S : Sym → ℕ → Type 0) : Type 0 where
  pub variables : (y : ℕ) → L (var y)
  pub entries : (i : ℕ) → L (entry i)
  pub leaf_or_not : (x : Leaf) → L x ⊎ ¬ L x
  pub symbol_or_not : (f : Sym) (n : ℕ) → S f n ⊎ ¬ S f n
  pub good : Leaf
  pub is_good : L good

module _ (L : Leaf → Type 0) (S : Sym → ℕ → Type 0) (kinds : Kinds L S) where
  abbrev pub Is : Tree → Type 0
  Is t = IsBuiltOf L S t

  -- under a substitution
  instance_leaf : (p : ℕ → Tree) (t : Tree) → ((y : ℕ) → StandsIn (var y) t → Is (p y)) → (x : Leaf) → StandsIn x t → L x → Is (variables_to p x)
  instance_leaf p t h (var y) c k = h y c
  instance_leaf p t h (public n) c k = k
  instance_leaf p t h (private n) c k = k
  instance_leaf p t h (ax n) c k = k
  instance_leaf p t h (entry n) c k = k
  instance_leaf p t h (rigid n) c k = k

  is_instance : (p : ℕ → Tree) (t : Tree) → Is t → ((y : ℕ) → StandsIn (var y) t → Is (p y)) → Is (substitute p t)
  is_instance p t up h = built_instance L S L (variables_to p) t up (instance_leaf p t h)

  mutual
    before : (r : ℕ → Tree) (t : Tree) → Is (substitute r t) → Is t
    before r (leaf (var n)) h = kinds.variables n
    before r (leaf (public n)) h = h
    before r (leaf (private n)) h = h
    before r (leaf (ax n)) h = h
    before r (leaf (entry n)) h = h
    before r (leaf (rigid n)) h = h
    before r (app f ts) h = (subst (S f) (count-replace_all (variables_to r) ts) h.0, all_before r ts h.1)

    all_before : (r : ℕ → Tree) (ts : Trees) → AreBuiltOf L S (substitute_all r ts) → AreBuiltOf L S ts
    all_before r none h = tt
    all_before r (more t ts) h = (before r t h.0, all_before r ts h.1)

  -- the good leaf in the place of each other part
  abbrev mutual
    cleaned : Tree → Tree
    cleaned (leaf x) = pick (kinds.leaf_or_not x) (leaf x) (leaf kinds.good)
    cleaned (app f ts) = pick (kinds.symbol_or_not f (count ts)) (app f (all_cleaned ts)) (leaf kinds.good)

    all_cleaned : Trees → Trees
    all_cleaned none = none
    all_cleaned (more t ts) = more (cleaned t) (all_cleaned ts)

  count_cleaned : (ts : Trees) → count (all_cleaned ts) ≡ count ts
  count_cleaned none = refl
  count_cleaned (more t ts) = ap (λ n. 1 + n) (count_cleaned ts)

  picked_leaf : (x : Leaf) (q : L x ⊎ ¬ L x) → Is (pick q (leaf x) (leaf kinds.good))
  picked_leaf x (inl h) = h
  picked_leaf x (inr h) = kinds.is_good

  picked_symbol : (f : Sym) (n : ℕ) (us : Trees) (q : S f n ⊎ ¬ S f n) → count us ≡ n → AreBuiltOf L S us → Is (pick q (app f us) (leaf kinds.good))
  picked_symbol f n us (inl h) e up = (subst (S f) (sym e) h, up)
  picked_symbol f n us (inr h) e up = kinds.is_good

  mutual
    is_cleaned : (t : Tree) → Is (cleaned t)
    is_cleaned (leaf x) = picked_leaf x (kinds.leaf_or_not x)
    is_cleaned (app f ts) = picked_symbol f (count ts) (all_cleaned ts) (kinds.symbol_or_not f (count ts)) (count_cleaned ts) (are_cleaned ts)

    are_cleaned : (ts : Trees) → AreBuiltOf L S (all_cleaned ts)
    are_cleaned none = tt
    are_cleaned (more t ts) = (is_cleaned t, are_cleaned ts)

  kept_leaf : (x : Leaf) → L x → leaf x ≡ cleaned (leaf x)
  kept_leaf x h = sym (pick_there (kinds.leaf_or_not x) (leaf x) (leaf kinds.good) h)

  mutual
    clean_instance : (z : ℕ → Tree) (t : Tree) → Is t → substitute (λ n. cleaned (z n)) t ≡ cleaned (substitute z t)
    clean_instance z (leaf (var n)) h = refl
    clean_instance z (leaf (public n)) h = kept_leaf (public n) h
    clean_instance z (leaf (private n)) h = kept_leaf (private n) h
    clean_instance z (leaf (ax n)) h = kept_leaf (ax n) h
    clean_instance z (leaf (entry n)) h = kept_leaf (entry n) h
    clean_instance z (leaf (rigid n)) h = kept_leaf (rigid n) h
    clean_instance z (app f ts) h =
        let there = subst (S f) (sym (count-replace_all (variables_to z) ts)) h.0 in
        ap (app f) (clean_all z ts h.1)
        ∙ sym (pick_there (kinds.symbol_or_not f (count (substitute_all z ts))) (app f (all_cleaned (substitute_all z ts))) (leaf kinds.good) there)

    clean_all : (z : ℕ → Tree) (ts : Trees) → AreBuiltOf L S ts → substitute_all (λ n. cleaned (z n)) ts ≡ all_cleaned (substitute_all z ts)
    clean_all z none h = refl
    clean_all z (more t ts) h = λ i. more (clean_instance z t h.0 i) (clean_all z ts h.1 i)

  -- so a most general unifier makes none
  abbrev ArePairs : List (Tree × Tree) → Type 0
  ArePairs pairs = (p : Tree × Tree) → Contains pairs p → Is p.0 × Is p.1

  image_is : (levels : List (ℕ × ℕ)) (pairs : List (Tree × Tree)) (u : List (ℕ × Tree)) → IsMgu levels pairs u → ArePairs pairs → (n : ℕ) → Is (image u n)
  image_is levels pairs u mgu h n = before (λ k. cleaned (image u k)) (image u n) (subst Is (sym (mgu.general (λ k. cleaned (image u k)) unified n)) (is_cleaned (image u n)))
    where
      unified : Unifies (λ k. cleaned (image u k)) pairs
      unified = all_of (λ (p : Tree × Tree). substitute (λ k. cleaned (image u k)) p.0 ≡ substitute (λ k. cleaned (image u k)) p.1) pairs
          (λ p c. let both = h p c in
          clean_instance (image u) p.0 both.0 ∙ ap cleaned (all_in (λ (q : Tree × Tree). substitute (image u) q.0 ≡ substitute (image u) q.1) pairs p mgu.unifies c)
          ∙ sym (clean_instance (image u) p.1 both.1))

  -- a composed root over names
  names_are : (ns : List ℕ) → AreBuiltOf L S (trees (map (λ n. leaf (var n)) ns))
  names_are [] = tt
  names_are (n ∷ ns) = (kinds.variables n, names_are ns)

  count_names : (ns : List ℕ) → count (trees (map (λ n. leaf (var n)) ns)) ≡ length ns
  count_names [] = refl
  count_names (n ∷ ns) = omega (arith, count_names ns)

  count_list : (ts : Trees) → count ts ≡ length (list_of ts)
  count_list none = refl
  count_list (more t ts) = omega (arith, count_list ts)

  count_range : (n k : ℕ) → length (range_with_len n k) ≡ k
  count_range n zero = refl
  count_range n (suc k) = omega (arith, count_range (n + 1) k)

  root_is : (t : Tree) (n : ℕ) → Is t → Is (root_over t (range_with_len n (length (arguments t))))
  root_is (leaf x) n h = h
  root_is (app f ts) n h =
      let ns = range_with_len n (length (list_of ts)) in
      (subst (S f) (count_list ts ∙ sym (count_range n (length (list_of ts))) ∙ sym (count_names ns)) h.0, names_are ns)

  among_is : (ts : Trees) (u : Tree) → AreBuiltOf L S ts → Contains (list_of ts) u → Is u
  among_is none u h c = absurd (in_none u c)
  among_is (more t ts) u h c = elim (in_cons u t (list_of ts) c) [ inl e ↦ subst Is (sym e) h.0 | inr k ↦ among_is ts u h.1 k ]

  argument_is : (t u : Tree) → Is t → Contains (arguments t) u → Is u
  argument_is (leaf x) u h c = absurd (in_none u c)
  argument_is (app f ts) u h c = among_is ts u h.1 c

  single_is : (x : ℕ) (t : Tree) → Is t → (y : ℕ) → Is (image (single x t) y)
  single_is x t h y = elim (same_number y x) [
    | inl e ↦ subst Is (sym (ap (image (single x t)) e ∙ here x t)) h
    | inr d ↦ subst Is (sym (elsewhere x t y d)) (kinds.variables y)
  ]

  -- what a branch keeps
  pub record AreKept (b : Branch) : Type 0 where
    pub theta : (x : ℕ) → Is (b.theta x)
    pub trees : (x : ℕ) → Is (b.trees x)
    pub targets : (z : Target) → Contains b.targets z → Is z.term

  module _ (scene : Scene) (ask : Ask) (given : AreGiven (IsBuiltOf L S) scene ask) where
    under : (b : Branch) → AreKept b → (t : Tree) → Is t → Is (substitute b.theta t)
    under b has t h = is_instance b.theta t h (λ y c. has.theta y)

    value_is : (i : ℕ) → Is (numbered scene.values i (leaf (entry i)))
    value_is zero = kinds.entries zero
    value_is (suc j) = at (slice_get scene.values j) refl
      where
        at : (o : Option Tree) → slice_get scene.values j ≡ o → Is (unwrap_or o (leaf (entry (suc j))))
        at None e = kinds.entries (suc j)
        at (Some v) e = given.values v (slice_contains scene.values j v e)

    module _ (b : Branch) (has : AreKept b) (u : List (ℕ × Tree)) (pairs : List (Tree × Tree)) (mgu : IsMgu b.levels pairs u) (hold : ArePairs pairs)
        (ps : List (ℕ × ℕ)) (base : ℕ → Tree) (base_is : (y : ℕ) → Is (base y)) (left : List Target)
        (left_in : (y : Target) → Contains left y → Contains b.targets y) where
      abbrev now : ℕ → Tree
      now x = substitute (image u) (b.theta x)

      now_is : (x : ℕ) → Is (now x)
      now_is x = is_instance (image u) (b.theta x) (has.theta x) (λ y c. image_is b.levels pairs u mgu hold y)

      moves_are : (y : ℕ) → Is (moves now ps y)
      moves_are y = let m = moves_are_variables now ps y in subst Is (sym m.1) (kinds.variables m.0)

      unified_are : AreKept (after_all now ps (record b { theta = now; trees = (λ x. substitute base (b.trees x)); targets = left }))
      unified_are = record {
        theta = now_is;
        trees = λ x.
            is_instance (moves now ps) (substitute base (b.trees x)) (is_instance base (b.trees x) (has.trees x) (λ y c. base_is y)) (λ y c. moves_are y);
        targets = λ y c. elim (in_append y left (new_targets now ps) c) [
          | inl k ↦ has.targets y (left_in y k)
          | inr k ↦ let n = is_new now ps y k in subst Is (sym n.term) (now_is y.name)
        ];
      }

    module _ (b : Branch) (z : Target) (rest : List Target) (has : AreKept b) (first : Contains b.targets z)
        (rest_in : (y : Target) → Contains rest y → Contains b.targets y) where
      put_is : (x : ℕ) (t : Tree) → Is t → (y : ℕ) → Is (substitute (image (single x t)) (b.trees y))
      put_is x t h y = is_instance (image (single x t)) (b.trees y) (has.trees y) (λ v c. single_is x t h v)

      follow_are : (w : ℕ) → AreKept (with_tree b z rest (leaf (var w)))
      follow_are w = record {
        theta = has.theta;
        trees = put_is z.name (leaf (var w)) (kinds.variables w);
        targets = λ y c. has.targets y (rest_in y c);
      }

      lower_are : (w : ℕ) → AreKept (lowered b z rest w)
      lower_are w = record {
        theta = λ x. is_instance (image (single w (leaf (var z.name)))) (b.theta x) (has.theta x)
            (λ v c. single_is w (leaf (var z.name)) (kinds.variables z.name) v);
        trees = put_is w (leaf (var z.name)) (kinds.variables z.name);
        targets = λ y c. has.targets y (rest_in y c);
      }

      term_is : Is (substitute b.theta z.term)
      term_is = under b has z.term (has.targets z first)

      compose_are : AreKept (composed b z rest (substitute b.theta z.term))
      compose_are =
          let t = substitute b.theta z.term in
          record {
            theta = has.theta;
            trees = put_is z.name (root_over t (range_with_len b.next (length (arguments t)))) (root_is t b.next term_is);
            targets = λ y c. elim (in_append y (kids z b.next (arguments t)) rest c) [
              | inl k ↦ argument_is t y.term term_is (is_kid z b.next (arguments t) identity y k).among
              | inr k ↦ has.targets y (rest_in y k)
            ];
          }

      equation_is : (i : ℕ) → ArePairs (entry_equation scene b z i)
      equation_is i p c = elim (in_cons p (substitute b.theta (numbered scene.values i (leaf (entry i))), substitute b.theta z.term) [] c) [
        | inl e ↦ subst (λ (q : Tree × Tree). Is q.0 × Is q.1) (sym e) (under b has (numbered scene.values i (leaf (entry i))) (value_is i), term_is)
        | inr k ↦ absurd (in_none p k)
      ]

      pub way_keeps : (c : Branch) {w : Way} → Leads scene b z rest w c → AreKept c
      way_keeps c (follows {w = w} e h q) = subst AreKept (sym q) (follow_are w)
      way_keeps c (lowers {w = w} e h q) = subst AreKept (sym q) (lower_are w)
      way_keeps c (composes q) = subst AreKept (sym q) compose_are
      way_keeps c (uses {i = i} {u = u} {theta = theta} {bound = ps} mgu e newly q) =
          let to = q ∙ ap (λ f. with_bound ps (record (with_tree b z rest (leaf (entry i))) { theta = f })) e ∙ bound_is ps
          (record (with_tree b z rest (leaf (entry i))) { theta = (λ x. substitute (image u) (b.theta x)) }) in
          subst AreKept (sym to)
          (unified_are b has u (entry_equation scene b z i) mgu (equation_is i) ps (image (single z.name (leaf (entry i))))
          (single_is z.name (leaf (entry i)) (kinds.entries i)) rest rest_in)

    unbound_are : AreKept (unbound scene ask)
    unbound_are = record { theta = kinds.variables; trees = kinds.variables; targets = given.targets }

    pub start_keeps : (u : List (ℕ × Tree)) (ps : List (ℕ × ℕ)) → IsMgu scene.system.levels ask.equations u
        → AreKept (with_bound ps (record (unbound scene ask) { theta = image u }))
    start_keeps u ps mgu =
        subst AreKept (sym (bound_is ps (record (unbound scene ask) { theta = image u })))
        (unified_are (unbound scene ask) unbound_are u ask.equations mgu given.equations ps identity kinds.variables ask.targets (λ y c. c))
