-- What a true question on a tree says.
use Rattle.std.proofs.Common.{◌≡◌, ℕ, List, [], ◌∷◌, map, refl, sym, ◌∙◌, ap, subst, inl, inr, arith, Some, None}
use Rattle.std.specs.List.{AllZip, zip}
use Rattle.dps_terms.specs.declared.PublicName.TheVariants.{At}
use Rattle.dps_terms.specs.Tree.{Leaf, public, var, Tree, Trees, leaf, app, none, more, StandsIn, IsAmong, below, in_first, in_rest}
use Rattle.dps_terms.specs.Replace.{replace, replace_all, substitute, variables_to, put_entries, entries_to}
use Rattle.dps_terms.specs.Bindings.{image}
use Rattle.dps_terms.proofs.Replacing.{replace_in_turn}
use Rattle.dps_unify.specs.Order.{level_of}
use Rattle.dps_unify.proofs.Bound.{single_here, image_some}
use Rattle.dps_unify.proofs.Trees.{in_leaf, substitute_agrees}
use Rattle.dps_solver.specs.Levels.{IsGroundUpTo, AnyRigidName}
use Rattle.dps_solver.specs.declared.scene.Target.{Target}
use Rattle.dps_solver.specs.Solutions.{valued}
use Rattle.dps_symeval.proofs.Listed.{contains_one}
use Rattle.dps_node.specs.Node.{SymbolicConfig, Node, variables_of, scene_of}
use Rattle.dps_node.specs.Questions.{Query, Found, tree_of, first_free, tree}
use Rattle.dps_node.specs.Truth.{IsDecided, IsUnder, IsTreeOf}
use Rattle.dps_node.proofs.Truth.{option_cases, IsUsed, is_used, filling, filling_here, filling_other, filling_ground, meets_by}

at_leaf : (f h : Leaf → Tree) (x y : Leaf) → leaf x ≡ leaf y → f y ≡ h y → f x ≡ h x
at_leaf f h x y d e = let same : y ≡ x = cc in subst (λ k. f k ≡ h k) same e

-- equal replacements of a tree agree on each of its leaves
mutual
  pub agree_back : (f h : Leaf → Tree) (t : Tree) (x : Leaf) → replace f t ≡ replace h t → StandsIn x t → f x ≡ h x
  agree_back f h (leaf y) x e k = at_leaf f h x y (in_leaf y (leaf x) k) e
  agree_back f h (app g ts) x e (below k) = agree_back_among f h ts x (let d : replace_all f ts ≡ replace_all h ts = cc in d) k

  pub agree_back_among : (f h : Leaf → Tree) (ts : Trees) (x : Leaf) → replace_all f ts ≡ replace_all h ts → IsAmong (leaf x) ts → f x ≡ h x
  agree_back_among f h none x e k = elim k [ ]
  agree_back_among f h (more t ts) x e (in_first k) = agree_back f h t x (let d : replace f t ≡ replace h t = cc in d) k
  agree_back_among f h (more t ts) x e (in_rest k) = agree_back_among f h ts x (let d : replace_all f ts ≡ replace_all h ts = cc in d) k

module _ (names : ℕ → Type 0) (node : Node) (c : SymbolicConfig) (t : Tree) (used : Found) (s : ℕ → Tree) (g : List Tree) (under : IsUnder names node c (tree node t) s g) (d : IsDecided node c (tree node t) (Some used)) (known : (x : ℕ) → StandsIn (var x) t → (l : ℕ) × (level_of (variables_of node) x ≡ Some l)) where
  abbrev z : ℕ
  z = first_free node

  abbrev target : Target
  target = record { name = z; level = node.m; term = t }

  abbrev query : Query
  query = record { ask = record { equations = []; targets = target ∷ [] }; result = leaf (var z) }

  is : IsUsed (scene_of node c) (tree node t) used
  is = is_used node c (tree node t) used d

  one : used.0 ≡ query
  one = contains_one query used.0 is.at.asked

  abbrev fill : ℕ → ℕ → Tree
  fill n = filling names node c (tree node t) s g under n

  -- the one answer is the tree
  found_is :
      (eta a : ℕ → Tree) (answers : List Tree)
      → AllZip (λ (w : Target) u. IsGroundUpTo AnyRigidName node.m node.know w.level u × (put_entries g u ≡ substitute eta w.term)) (target ∷ []) (map (substitute a) answers)
      → (u : Tree) × (answers ≡ u ∷ []) × IsGroundUpTo AnyRigidName node.m node.know node.m (substitute a u) × (put_entries g (substitute a u) ≡ substitute eta t)
  found_is eta a [] h = absurd h
  found_is eta a (u ∷ []) h = (u, refl, h.0.0, h.0.1)
  found_is eta a (u ∷ v ∷ us) h = absurd h.1

  answer_is : (u : Tree) → used.1.answers ≡ u ∷ [] → tree_of used ≡ u
  answer_is u e =
      (λ i. substitute (image (zip (map (λ (w : Target). w.name) (one i).ask.targets) (e i))) (one i).result)
      ∙ image_some ((z, u) ∷ []) z u (single_here z u)

  under_filling : (n : ℕ) → IsGroundUpTo AnyRigidName node.m node.know node.m (substitute (fill n) (tree_of used)) × (put_entries g (substitute (fill n) (tree_of used)) ≡ substitute (valued g s) t)
  under_filling n =
      let m =
      meets_by names node c (tree node t) s g under used is (fill n) (filling_here names node c (tree node t) s g under n)
      (filling_ground names node c (tree node t) s g under n) (valued g (fill n)) (λ y k. refl) in
      let eta : ℕ → Tree = λ x. substitute (valued g (fill n)) (used.1.theta x) in
      let f =
      found_is eta (fill n) used.1.answers
      (subst (λ (q : Query). AllZip (λ (w : Target) u. IsGroundUpTo AnyRigidName node.m node.know w.level u × (put_entries g u ≡ substitute eta w.term)) q.ask.targets (map (substitute (fill n)) used.1.answers)) one m.targets) in
      let same : tree_of used ≡ f.0 = answer_is f.0 f.1 in (
        subst (λ u. IsGroundUpTo AnyRigidName node.m node.know node.m (substitute (fill n) u)) (sym same) f.2,
        ap (λ u. put_entries g (substitute (fill n) u)) same ∙ (f.3 ∙ substitute_agrees eta (valued g s) t (λ x k. let l = known x k in m.agrees x l.0 l.1)),
      )

  are_equal : put_entries g (substitute (fill 0) (tree_of used)) ≡ put_entries g (substitute (fill 1) (tree_of used))
  are_equal = (under_filling 0).1 ∙ sym (under_filling 1).1

  other_never : (x : ℕ) → StandsIn (var x) (tree_of used) → level_of (variables_of node) x ≡ None → ⊥
  other_never x k e =
      let f : Leaf → Tree = λ y. put_entries g (variables_to (fill 0) y) in
      let h : Leaf → Tree = λ y. put_entries g (variables_to (fill 1) y) in
      let all : replace f (tree_of used) ≡ replace h (tree_of used) =
      sym (replace_in_turn (variables_to (fill 0)) (entries_to g) (tree_of used)) ∙ (are_equal ∙ replace_in_turn (variables_to (fill 1)) (entries_to g) (tree_of used)) in
      let here : put_entries g (fill 0 x) ≡ put_entries g (fill 1 x) = agree_back f h (tree_of used) (var x) all k in
      let names_equal : leaf (public (At 0)) ≡ leaf (public (At 1)) =
      ap (put_entries g) (sym (filling_other names node c (tree node t) s g under 0 x e)) ∙ (here ∙ ap (put_entries g) (filling_other names node c (tree node t) s g under 1 x e)) in
      let same : ◌≡◌ {A = ℕ} 0 1 = cc in
      absurd (omega (arith, same))

  is_known : (x : ℕ) → StandsIn (var x) (tree_of used) → (l : ℕ) × (level_of (variables_of node) x ≡ Some l)
  is_known x k = elim (option_cases (level_of (variables_of node) x)) [ inl e ↦ absurd (other_never x k e) | inr l ↦ l ]

  pub tree_true : IsTreeOf node s g t (tree_of used)
  tree_true =
      let same : substitute (fill 0) (tree_of used) ≡ substitute s (tree_of used) =
      substitute_agrees (fill 0) s (tree_of used) (λ x k. let l = is_known x k in filling_here names node c (tree node t) s g under 0 x l.0 l.1) in
      record {
        known = is_known;
        level = subst (λ u. IsGroundUpTo AnyRigidName node.m node.know node.m u) same (under_filling 0).0;
        value = ap (put_entries g) (sym same) ∙ (under_filling 0).1;
      }
