-- A variable of the scene whose tree is another variable comes after it in the order of variables.
use Rattle.std.proofs.Common.{◌≡◌, ℕ, ◌<◌, ◌≤◌, List, ◌∷◌, length, ◌⊎◌, inl, inr, Some, None, Option, refl, sym, ◌∙◌, ap, arith, subst, Contains}
use Rattle.std.specs.Prelude.{◌≢◌}
use Rattle.std.specs.List.{range_with_len}
use Rattle.dps_terms.specs.Tree.{public, private, var, ax, entry, rigid, Tree, leaf, app}
use Rattle.dps_terms.specs.Replace.{substitute}
use Rattle.dps_terms.specs.Views.{arguments}
use Rattle.dps_terms.specs.Bindings.{image}
use Rattle.dps_unify.specs.Order.{level_of, ComesBefore}
use Rattle.dps_unify.specs.Unifier.{IsMgu}
use Rattle.dps_unify.proofs.Bound.{single}
use Rattle.dps_unify.proofs.Unique.{was_variable, is_bound_to}
use Rattle.dps_solver.specs.Levels.{IsVariableUpTo}
use Rattle.dps_solver.specs.Scene.{Scene, Ask}
use Rattle.dps_solver.specs.declared.scene.Target.{Target}
use Rattle.dps_solver.specs.Solutions.{identity}
use Rattle.dps_solver.specs.Search.{Branch, Way, ways, Leads, follows, lowers, uses, composes, with_tree, with_bound, lowered, composed, root_over, unbound, entry_equation, AreNewlyBound}
use Rattle.dps_solver.proofs.Bindings.{here, elsewhere}
use Rattle.dps_directions.specs.Valid.{IsValid, Fits}
use Rattle.dps_directions.proofs.Invariant.{IsFree, IsKept}
use Rattle.dps_directions.proofs.Following.{same_number, level_there, level_past, first_in, rest_in, name_not_free, distinct_head, distinct_tail, level_below_m}
use Rattle.dps_directions.proofs.Lowering.{same_var, le_or_gt, z_new}
use Rattle.dps_directions.proofs.Composing.{IsComposable, composable}
use Rattle.dps_directions.proofs.NewlyBound.{moves, AreNames, moves_else, moves_at, renamed, renamed_is, variable_or_not, bound_is}
use Rattle.dps_directions.proofs.Unifying.{are_names}
use Rattle.dps_directions.proofs.Ways.{inside, cases, distinct_all, used_entry}
use Rattle.dps_directions.proofs.Beginning.{unbound_kept, inside as start_inside}
use Rattle.dps_directions.proofs.AlongUnify.{is_variable_or_not}

-- the variable y of level k is x of level l, or comes before it
abbrev pub IsAtMost : ℕ → ℕ → ℕ → ℕ → Type 0
IsAtMost k y l x = (k < l) ⊎ ((k ≡ l) × (y ≤ x))

abbrev pub Descends : Scene → Branch → Type 0
Descends scene b =
    (x l y : ℕ) → level_of scene.system.levels x ≡ Some l → b.trees x ≡ leaf (var y) → (k : ℕ) × (level_of b.levels y ≡ Some k) × IsAtMost k y l x

further : (j v k y l x : ℕ) → (j < k) ⊎ ((j ≡ k) × (v < y)) → IsAtMost k y l x → IsAtMost j v l x
further j v k y l x (inl h) (inl i) = inl (omega (arith, h, i))
further j v k y l x (inl h) (inr i) = inl (omega (arith, h, i.0))
further j v k y l x (inr h) (inl i) = inl (omega (arith, h.0, i))
further j v k y l x (inr h) (inr i) = inr (omega (arith, h.0, i.0), omega (arith, h.1, i.1))

before_level : (o : Option ℕ) (k y v : ℕ) → ComesBefore o (Some k) y v → (j : ℕ) × (o ≡ Some j) × ((j < k) ⊎ ((j ≡ k) × (y < v)))
before_level (Some j) k y v h = (j, refl, h)
before_level None k y v h = absurd h

-- more is put for variables in values
module _ (scene : Scene) (b : Branch) (u : List (ℕ × Tree)) (pairs : List (Tree × Tree)) (mgu : IsMgu b.levels pairs u) (th : ℕ → Tree)
    (is : th ≡ (λ x. substitute (image u) (b.theta x))) (ps : List (ℕ × ℕ)) (newly : AreNewlyBound b.levels b.theta th ps) (apart : AreNames th ps) (base : ℕ → Tree)
    (base_variable : (y v : ℕ) → base y ≡ leaf (var v) → y ≡ v) (has : Descends scene b) where
  -- a variable that is moved comes to one before it
  moved : (x l v k y : ℕ) → level_of b.levels v ≡ Some k → IsAtMost k v l x → b.theta v ≡ leaf (var v) → th v ≢ leaf (var v)
      → moves th ps v ≡ leaf (var y) → (j : ℕ) × (level_of b.levels y ≡ Some j) × IsAtMost j y l x
  moved x l v k y level low free bound to =
      let c : Contains ps (v, k) = (newly.those (v, k)).1 (level, free, bound) in
      let at = sym (moves_at th ps (v, k) newly.ascending apart c) ∙ to in
      elim (variable_or_not (th v)) [
        | inl e ↦
            let same : e.0 ≡ y = same_var e.0 y (sym (ap (λ t. renamed t v) e.1) ∙ at) in
            let image_is : image u v ≡ leaf (var e.0) = sym (ap (λ (f : ℕ → Tree). f v) is ∙ ap (substitute (image u)) free) ∙ e.1 in
            let other : v ≢ e.0 = λ d. bound (e.1 ∙ ap (λ n. leaf (var n)) (sym d)) in
            let before = mgu.least v e.0 (is_bound_to u v e.0 image_is other) in
            let j = before_level (level_of b.levels e.0) k e.0 v (subst (λ o. ComesBefore (level_of b.levels e.0) o e.0 v) level before) in
            (j.0, subst (λ n. level_of b.levels n ≡ Some j.0) same j.1, subst (λ n. IsAtMost j.0 n l x) same (further j.0 e.0 k v l x j.2 low))
        | inr d ↦
            let same : v ≡ y = same_var v y (sym (renamed_is (th v) v d) ∙ at) in
            (k, subst (λ n. level_of b.levels n ≡ Some k) same level, subst (λ n. IsAtMost k n l x) same low)
      ]

  stayed : (x l v k y : ℕ) → level_of b.levels v ≡ Some k → IsAtMost k v l x → ((q : ℕ × ℕ) → Contains ps q → q.0 ≢ v)
      → moves th ps v ≡ leaf (var y) → (j : ℕ) × (level_of b.levels y ≡ Some j) × IsAtMost j y l x
  stayed x l v k y level low never to =
      let same : v ≡ y = same_var v y (sym (moves_else th ps v never) ∙ to) in
      (k, subst (λ n. level_of b.levels n ≡ Some k) same level, subst (λ n. IsAtMost k n l x) same low)

  at_variable : (x l v k y : ℕ) → level_of b.levels v ≡ Some k → IsAtMost k v l x → moves th ps v ≡ leaf (var y)
      → (j : ℕ) × (level_of b.levels y ≡ Some j) × IsAtMost j y l x
  at_variable x l v k y level low to = elim (is_variable_or_not (b.theta v) v) [
    | inl free ↦ elim (is_variable_or_not (th v) v) [
      | inl e ↦ stayed x l v k y level low (λ q c d. ((newly.those q).0 c).2 (subst (λ n. th n ≡ leaf (var n)) (sym d) e)) to
      | inr d ↦ moved x l v k y level low free d to
    ]
    | inr d ↦ stayed x l v k y level low (λ q c e. d (subst (λ n. b.theta n ≡ leaf (var n)) e ((newly.those q).0 c).1)) to
  ]

  pub unified_descends : (x l y : ℕ) → level_of scene.system.levels x ≡ Some l → substitute (moves th ps) (substitute base (b.trees x)) ≡ leaf (var y)
      → (k : ℕ) × (level_of b.levels y ≡ Some k) × IsAtMost k y l x
  unified_descends x l y e f =
      let middle = was_variable (moves th ps) (substitute base (b.trees x)) y f in
      let old = was_variable base (b.trees x) middle.0 middle.1 in
      let same : old.0 ≡ middle.0 = base_variable old.0 middle.0 (sym (ap (substitute base) old.1) ∙ middle.1) in
      let h = has x l old.0 e old.1 in
      at_variable x l old.0 h.0 y h.1 h.2 (ap (moves th ps) same ∙ sym (ap (substitute (moves th ps)) middle.1) ∙ f)

-- the ways
module _ (scene : Scene) (ask : Ask) (b : Branch) (z : Target) (rest : List Target) (kept : IsKept scene ask b) (is : b.targets ≡ z ∷ rest)
    (below_m : (x l : ℕ) → level_of scene.system.levels x ≡ Some l → l ≤ scene.system.m) (has : Descends scene b) where
  first : Contains b.targets z
  first = first_in scene ask b z rest kept is

  -- a target whose term is a variable is the tree of no variable
  name_not_tree : (w : ℕ) → substitute b.theta z.term ≡ leaf (var w) → (k : ℕ) → ¬ (level_of b.levels z.name ≡ Some k)
  name_not_tree w term k e = elim (kept.names z first) [
    | inl new ↦ let d : None ≡ Some k = sym new.no_level ∙ e in cc
    | inr bound ↦ bound.composed w (bound.term ∙ term)
  ]

  follow_descends : (w : ℕ) → substitute b.theta z.term ≡ leaf (var w) → Descends scene (with_tree b z rest (leaf (var w)))
  follow_descends w term x l y e f =
      let p = image (single z.name (leaf (var w))) in
      let v = was_variable p (b.trees x) y f in
      let to : p v.0 ≡ leaf (var y) = sym (ap (substitute p) v.1) ∙ f in
      let h = has x l v.0 e v.1 in
      elim (same_number v.0 z.name) [
        | inl d ↦ absurd (name_not_tree w term h.0 (subst (λ n. level_of b.levels n ≡ Some h.0) d h.1))
        | inr d ↦
            let same : v.0 ≡ y = same_var v.0 y (sym (elsewhere z.name (leaf (var w)) v.0 d) ∙ to) in
            (h.0, subst (λ n. level_of b.levels n ≡ Some h.0) same h.1, subst (λ n. IsAtMost h.0 n l x) same h.2)
      ]

  lower_descends : (w : ℕ) → substitute b.theta z.term ≡ leaf (var w) → ¬ IsVariableUpTo b.levels z.level w → Descends scene (lowered b z rest w)
  lower_descends w term high x l y e f =
      let q = image (single w (leaf (var z.name))) in
      let v = was_variable q (b.trees x) y f in
      let to : q v.0 ≡ leaf (var y) = sym (ap (substitute q) v.1) ∙ f in
      let h = has x l v.0 e v.1 in
      elim (same_number v.0 w) [
        | inl d ↦
            let same : z.name ≡ y = same_var z.name y (sym (ap q d ∙ here w (leaf (var z.name))) ∙ to) in
            let less : z.level < h.0 = elim (le_or_gt h.0 z.level) [
              | inl i ↦ absurd (high (h.0, subst (λ n. level_of b.levels n ≡ Some h.0) d h.1, i))
              | inr i ↦ i
            ] in
            (z.level, level_there z.name z.level y b.levels same, inl (elim h.2 [ inl i ↦ omega (arith, less, i) | inr i ↦ omega (arith, less, i.0) ]))
        | inr d ↦
            let same : v.0 ≡ y = same_var v.0 y (sym (elsewhere w (leaf (var z.name)) v.0 d) ∙ to) in
            let new = z_new scene ask b z rest kept is w term high below_m in
            let other : z.name ≢ v.0 = λ i. let n : None ≡ Some h.0 = sym new.no_level ∙ ap (level_of b.levels) i ∙ h.1 in cc in
            let level = level_past (z.name, z.level) v.0 b.levels other ∙ h.1 in
            (h.0, subst (λ n. level_of ((z.name, z.level) ∷ b.levels) n ≡ Some h.0) same level, subst (λ n. IsAtMost h.0 n l x) same h.2)
      ]

  no_variable : (m l y : ℕ) (t : Tree) (ns : List ℕ) → IsComposable m l t → root_over t ns ≢ leaf (var y)
  no_variable m l y (leaf (public n)) ns h e = cc
  no_variable m l y (leaf (rigid n)) ns h e = cc
  no_variable m l y (leaf (private n)) ns h e = h
  no_variable m l y (leaf (var n)) ns h e = h
  no_variable m l y (leaf (ax n)) ns h e = h
  no_variable m l y (leaf (entry n)) ns h e = h
  no_variable m l y (app f ts) ns h e = cc

  compose_descends : IsComposable scene.system.m z.level (substitute b.theta z.term) → Descends scene (composed b z rest (substitute b.theta z.term))
  compose_descends root x l y e f =
      let t = substitute b.theta z.term in
      let tree = root_over t (range_with_len b.next (length (arguments t))) in
      let p = image (single z.name tree) in
      let v = was_variable p (b.trees x) y f in
      let to : p v.0 ≡ leaf (var y) = sym (ap (substitute p) v.1) ∙ f in
      let h = has x l v.0 e v.1 in
      elim (same_number v.0 z.name) [
        | inl d ↦ absurd (no_variable scene.system.m z.level y t (range_with_len b.next (length (arguments t))) root (sym (ap p d ∙ here z.name tree) ∙ to))
        | inr d ↦
            let same : v.0 ≡ y = same_var v.0 y (sym (elsewhere z.name tree v.0 d) ∙ to) in
            (h.0, subst (λ n. level_of b.levels n ≡ Some h.0) same h.1, subst (λ n. IsAtMost h.0 n l x) same h.2)
      ]

  entry_base : (i y v : ℕ) → image (single z.name (leaf (entry i))) y ≡ leaf (var v) → y ≡ v
  entry_base i y v e = elim (same_number y z.name) [
    | inl d ↦ let h : leaf (entry i) ≡ leaf (var v) = sym (ap (image (single z.name (leaf (entry i)))) d ∙ here z.name (leaf (entry i))) ∙ e in cc
    | inr d ↦ same_var y v (sym (elsewhere z.name (leaf (entry i)) y d) ∙ e)
  ]

  pub way_descends : (c : Branch) {w : Way} → Contains (ways scene.system z.level (substitute b.theta z.term)) w → Leads scene b z rest w c → Descends scene c
  way_descends c among (follows {w = w} e h q) = subst (Descends scene) (sym q) (follow_descends w e)
  way_descends c among (lowers {w = w} e h q) = subst (Descends scene) (sym q) (lower_descends w e h)
  way_descends c among (composes q) = subst (Descends scene) (sym q) (compose_descends (composable scene.system z.level (substitute b.theta z.term) among))
  way_descends c among (uses {i = i} {u = u} {theta = theta} {bound = bound} mgu e newly q) =
      let there = used_entry scene.system z.level i (substitute b.theta z.term) among in
      let all = distinct_all scene ask b z rest kept is i u mgu there below_m in
      let known = inside scene ask b z rest kept is i u mgu there below_m in
      let now : ℕ → Tree = λ x. substitute (image u) (b.theta x) in
      let newly_now = subst (λ f. AreNewlyBound b.levels b.theta f bound) e newly in
      let apart = are_names scene ask b kept u (entry_equation scene b z i) mgu known bound newly_now rest (image (single z.name (leaf (entry i))))
      (λ y k. rest_in scene ask b z rest kept is y k) (distinct_tail z rest all)
      (λ y k h. elsewhere z.name (leaf (entry i)) y (λ d. distinct_head z h.0 rest all h.1 (sym d ∙ sym h.2)))
      (λ y k f. elsewhere z.name (leaf (entry i)) y (λ d. name_not_free scene ask b z rest kept is k (subst (λ n. IsFree b n k) d f)))
      (cases scene ask b z rest kept is i u mgu there below_m) below_m in
      let to = q ∙ ap (λ f. with_bound bound (record (with_tree b z rest (leaf (entry i))) { theta = f })) e ∙ bound_is bound
      (record (with_tree b z rest (leaf (entry i))) { theta = (λ x. substitute (image u) (b.theta x)) }) in
      subst (Descends scene) (sym to)
      (unified_descends scene b u (entry_equation scene b z i) mgu now refl bound newly_now apart (image (single z.name (leaf (entry i)))) (entry_base i) has)

-- the start
module _ (names : ℕ → Type 0) (scene : Scene) (ask : Ask) (valid : IsValid names scene) (fits : Fits scene ask) (u : List (ℕ × Tree))
    (mgu : IsMgu scene.system.levels ask.equations u) (ps : List (ℕ × ℕ)) (newly : AreNewlyBound scene.system.levels identity (image u) ps) where
  unbound_descends : Descends scene (unbound scene ask)
  unbound_descends x l y e f =
      let same : x ≡ y = same_var x y f in
      (l, subst (λ n. level_of scene.system.levels n ≡ Some l) same e, inr (refl, omega (arith, same)))

  apart_at_start : AreNames (image u) ps
  apart_at_start =
      are_names scene ask (unbound scene ask) (unbound_kept names scene ask valid fits) u ask.equations mgu (start_inside names scene ask valid fits) ps newly ask.targets identity
      (λ y c. c) fits.distinct (λ y k h. refl) (λ y k f. refl) (λ y k o. elim o [ inl h ↦ inl h | inr f ↦ inr (inl f) ]) (level_below_m names scene valid)

  pub start_descends : Descends scene (with_bound ps (record (unbound scene ask) { theta = image u }))
  start_descends =
      subst (Descends scene) (sym (bound_is ps (record (unbound scene ask) { theta = image u })))
      (unified_descends scene (unbound scene ask) u ask.equations mgu (image u) refl ps newly apart_at_start identity (λ y v e. same_var y v e) unbound_descends)
