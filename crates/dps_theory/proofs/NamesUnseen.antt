-- Names that stand neither in the frames nor in the rules matter to no static equivalence: in a recipe they are as good
-- as names of the attacker's own.
use Rattle.std.proofs.Common.{◌≡◌, ℕ, ◌+◌, ◌<◌, List, length, refl, sym, ◌∙◌, ap, subst, inl, inr, arith}
use Rattle.std.specs.Prelude.{◌⊎◌, All}
use Rattle.dps_terms.specs.declared.PublicName.{PublicName}
use Rattle.dps_terms.specs.declared.PublicName.TheVariants.{Declared, At}
use Rattle.dps_terms.specs.Tree.{Leaf, public, private, var, ax, entry, rigid, Tree, leaf}
use Rattle.dps_terms.specs.Replace.{replace, in_frame, handles_to, numbered}
use Rattle.dps_signature.specs.Signature.{Signature, HasArity, shapes, IsPublic}
use Rattle.dps_terms.specs.Kinds.{IsBuiltOf, AnySymbol, IsName, IsNoVariable}
use Rattle.dps_signature.specs.Kinds.{IsLeafOver, IsRecipe, IsRecipeLeaf}
use Rattle.dps_terms.proofs.Replacing.{replace_in_turn, replace_agrees, replace_stays}
use Rattle.dps_terms.proofs.Building.{leaf_meets, built_instance}
use Rattle.dps_theory.specs.Theory.{Rule, Theory, HasRule, HasPlainRules, IsRuleLeaf}
use Rattle.dps_theory.specs.Evaluation.{Evaluates, named}
use Rattle.dps_theory.specs.Frames.{Succeeds, HaveOneValue, AreStaticallyEquivalent}
use Rattle.dps_theory.specs.Laws.{KeepsRules, HasNamesOf}
use Rattle.dps_theory.proofs.Renaming.{replaced_evaluates, replaced_reflects}
use Rattle.dps_theory.proofs.FreshNames.{LeafBelow, Below, bound, frame_bound, is_below, frame_below, all_numbered, split_at, is_public}

module _ (one two : Signature) (theory : Theory) (base : ℕ)
    (plain : HasPlainRules theory)
    (over : (r : Rule) → HasRule theory r → HasNamesOf one r.left × HasNamesOf one r.right)
  where
    -- a name that `one` does not declare becomes a name of the attacker's that stands nowhere
    away_by : (n : ℕ) → IsPublic one n ⊎ (¬ IsPublic one n) → Tree
    away_by n (inl p) = leaf (public (Declared n))
    away_by n (inr q) = leaf (public (At (base + n)))

    away_name : PublicName → Tree
    away_name (At k) = leaf (public (At k))
    away_name (Declared n) = away_by n (is_public one n)

    away : Leaf → Tree
    away (public n) = away_name n
    away x = leaf x

    back_by : (k : ℕ) → (k < base) ⊎ ((n : ℕ) × (k ≡ base + n)) → Tree
    back_by k (inl l) = leaf (public (At k))
    back_by k (inr p) = leaf (public (Declared p.0))

    back_name : PublicName → Tree
    back_name (At k) = back_by k (split_at base k)
    back_name (Declared n) = leaf (public (Declared n))

    back : Leaf → Tree
    back (public n) = back_name n
    back x = leaf x

    back_high : (n : ℕ) (s : ((base + n) < base) ⊎ ((m : ℕ) × ((base + n) ≡ base + m))) → back_by (base + n) s ≡ leaf (public (Declared n))
    unfolding back_by
    back_high n (inl l) = absurd (omega arith)
    back_high n (inr p) = let e : p.0 ≡ n = (let q = p.1 in omega arith) in ap (λ (m : ℕ). leaf (public (Declared m))) e

    back_low : (k : ℕ) (s : (k < base) ⊎ ((m : ℕ) × (k ≡ base + m))) → k < base → back_by k s ≡ leaf (public (At k))
    unfolding back_by
    back_low k (inl l) h = refl
    back_low k (inr p) h = absurd (let q = p.1 in omega arith)

    undone_by : (n : ℕ) (s : IsPublic one n ⊎ (¬ IsPublic one n)) → replace back (away_by n s) ≡ leaf (public (Declared n))
    unfolding away_by back back_name
    undone_by n (inl p) = refl
    undone_by n (inr q) = back_high n (split_at base (base + n))

    undone : (x : Leaf) → LeafBelow base x → replace back (away x) ≡ leaf x
    unfolding away away_name back back_name
    undone (public (At k)) h = back_low k (split_at base k) h
    undone (public (Declared n)) h = undone_by n (is_public one n)
    undone (private n) h = refl
    undone (var n) h = refl
    undone (ax n) h = refl
    undone (entry n) h = refl
    undone (rigid n) h = refl

    stays_by : (n : ℕ) (s : IsPublic one n ⊎ (¬ IsPublic one n)) → IsPublic one n → away_by n s ≡ leaf (public (Declared n))
    unfolding away_by
    stays_by n (inl p) h = refl
    stays_by n (inr q) h = absurd (q h)

    away_stays : (x : Leaf) → IsLeafOver one x → away x ≡ leaf x
    unfolding away away_name
    away_stays (public (At k)) h = refl
    away_stays (public (Declared n)) h = stays_by n (is_public one n) h
    away_stays (private n) h = refl
    away_stays (var n) h = refl
    away_stays (ax n) h = refl
    away_stays (entry n) h = refl
    away_stays (rigid n) h = refl

    back_stays : (x : Leaf) → IsNoVariable x → IsRuleLeaf x → back x ≡ leaf x
    unfolding back back_name
    back_stays (public (At k)) i h = absurd h
    back_stays (public (Declared n)) i h = refl
    back_stays (private n) i h = refl
    back_stays (var n) i h = refl
    back_stays (ax n) i h = refl
    back_stays (entry n) i h = refl
    back_stays (rigid n) i h = refl

    away_keeps : KeepsRules theory away
    away_keeps = record {
      left = λ r h x s i. away_stays x (leaf_meets (IsLeafOver one) AnySymbol (over r h).0 s);
      right = λ r h x s i. away_stays x (leaf_meets (IsLeafOver one) AnySymbol (over r h).1 s);
    }

    back_keeps : KeepsRules theory back
    back_keeps = record {
      left = λ r h x s i. back_stays x i (leaf_meets IsRuleLeaf AnySymbol (plain.left r h) s);
      right = λ r h x s i. back_stays x i (leaf_meets IsRuleLeaf AnySymbol (plain.right r h) s);
    }

    evaluates_by : (n : ℕ) (s : IsPublic one n ⊎ (¬ IsPublic one n)) → Evaluates theory (away_by n s) (away_by n s)
    unfolding away_by
    evaluates_by n (inl p) = named tt
    evaluates_by n (inr q) = named tt

    away_evaluates : (x : Leaf) → IsName x → Evaluates theory (away x) (away x)
    unfolding away away_name
    away_evaluates (public (At k)) h = named tt
    away_evaluates (public (Declared n)) h = evaluates_by n (is_public one n)
    away_evaluates (private n) h = named tt
    away_evaluates (var n) h = absurd h
    away_evaluates (ax n) h = absurd h
    away_evaluates (entry n) h = absurd h
    away_evaluates (rigid n) h = named tt

    back_evaluates_by : (k : ℕ) (s : (k < base) ⊎ ((n : ℕ) × (k ≡ base + n))) → Evaluates theory (back_by k s) (back_by k s)
    unfolding back_by
    back_evaluates_by k (inl l) = named tt
    back_evaluates_by k (inr p) = named tt

    back_evaluates : (x : Leaf) → IsName x → Evaluates theory (back x) (back x)
    unfolding back back_name
    back_evaluates (public (At k)) h = back_evaluates_by k (split_at base k)
    back_evaluates (public (Declared n)) h = named tt
    back_evaluates (private n) h = named tt
    back_evaluates (var n) h = absurd h
    back_evaluates (ax n) h = absurd h
    back_evaluates (entry n) h = absurd h
    back_evaluates (rigid n) h = named tt

    module _ (frame : List Tree) (here : All (HasNamesOf one) frame) (low : All (Below base) frame) where
      at_leaf : (x : Leaf) → replace (handles_to frame) (away x) ≡ replace away (handles_to frame x)
      unfolding away away_name away_by
      at_leaf (public (At k)) = refl
      at_leaf (public (Declared n)) = at_name n (is_public one n)
        where
          at_name : (n : ℕ) (s : IsPublic one n ⊎ (¬ IsPublic one n)) → replace (handles_to frame) (away_by n s) ≡ away_by n s
          at_name n (inl p) = refl
          at_name n (inr q) = refl
      at_leaf (private n) = refl
      at_leaf (var n) = refl
      at_leaf (entry n) = refl
      at_leaf (rigid n) = refl
      at_leaf (ax j) = sym (replace_stays away (numbered frame j (leaf (ax j))) (λ x s. away_stays x (leaf_meets (IsLeafOver one) AnySymbol (all_numbered (HasNamesOf one) frame j (leaf (ax j)) here tt) s)))

      -- the recipe without those names, in the frame
      in_turn : (r : Tree) → in_frame frame (replace away r) ≡ replace away (in_frame frame r)
      in_turn r =
          replace_in_turn away (handles_to frame) r
          ∙ (replace_agrees (λ x. replace (handles_to frame) (away x)) (λ x. replace away (handles_to frame x)) r (λ x s. at_leaf x)
          ∙ sym (replace_in_turn (handles_to frame) away r))

      low_leaf : (x : Leaf) → LeafBelow base x → Below base (handles_to frame x)
      low_leaf (public n) h = h
      low_leaf (private n) h = tt
      low_leaf (var n) h = tt
      low_leaf (ax j) h = all_numbered (Below base) frame j (leaf (ax j)) low tt
      low_leaf (entry n) h = tt
      low_leaf (rigid n) h = tt

      low_in : (r : Tree) → Below base r → Below base (in_frame frame r)
      low_in r h = built_instance (LeafBelow base) AnySymbol (LeafBelow base) (handles_to frame) r h (λ x s l. low_leaf x l)

      forth : (r v : Tree) → Evaluates theory (in_frame frame r) v → Evaluates theory (in_frame frame (replace away r)) (replace away v)
      forth r v e = subst (λ t. Evaluates theory t (replace away v)) (sym (in_turn r)) (replaced_evaluates theory away away_keeps away_evaluates e)

      home : (r w : Tree) → Below base r → Evaluates theory (in_frame frame (replace away r)) w → Evaluates theory (in_frame frame r) (replace back w)
      home r w l e =
          replaced_reflects theory away back (in_frame frame r) w back_keeps back_evaluates
          (λ x s. undone x (leaf_meets (LeafBelow base) AnySymbol (low_in r l) s))
          (subst (λ t. Evaluates theory t w) (in_turn r) e)

    recipe_by : (m n : ℕ) (s : IsPublic one n ⊎ (¬ IsPublic one n)) → IsRecipe one m (away_by n s)
    unfolding away_by
    recipe_by m n (inl p) = p
    recipe_by m n (inr q) = tt

    recipe_leaf : (m : ℕ) (x : Leaf) → IsRecipeLeaf two m x → IsRecipe one m (away x)
    unfolding away away_name
    recipe_leaf m (public (At k)) h = tt
    recipe_leaf m (public (Declared n)) h = recipe_by m n (is_public one n)
    recipe_leaf m (ax j) h = h
    recipe_leaf m (private n) h = absurd h
    recipe_leaf m (var n) h = absurd h
    recipe_leaf m (entry n) h = absurd h
    recipe_leaf m (rigid n) h = absurd h

    recipe_away : (m : ℕ) (r : Tree) → shapes one ≡ shapes two → IsRecipe two m r → IsRecipe one m (replace away r)
    recipe_away m r e h =
        built_instance (IsRecipeLeaf two m) (HasArity (shapes one)) (IsRecipeLeaf one m) away r
        (subst (λ s. IsBuiltOf (IsRecipeLeaf two m) (HasArity s) r) (sym e) h) (λ x s l. recipe_leaf m x l)

    module _ (first second : List Tree) (here_first : All (HasNamesOf one) first) (here_second : All (HasNamesOf one) second)
        (low_first : All (Below base) first) (low_second : All (Below base) second) (same : shapes one ≡ shapes two)
        (e : AreStaticallyEquivalent one theory first second) where
      succeeds_on : (r : Tree) → Below base r → IsRecipe two (length first) r → Succeeds theory first r → Succeeds theory second r
      succeeds_on r l h m =
          let there = (e.same_successes (replace away r) (recipe_away (length first) r same h)).0 (replace away m.0, forth first here_first low_first r m.0 m.1) in
          (replace back there.0, home second here_second low_second r there.0 l there.1)

      succeeds_back : (r : Tree) → Below base r → IsRecipe two (length first) r → Succeeds theory second r → Succeeds theory first r
      succeeds_back r l h m =
          let there = (e.same_successes (replace away r) (recipe_away (length first) r same h)).1 (replace away m.0, forth second here_second low_second r m.0 m.1) in
          (replace back there.0, home first here_first low_first r there.0 l there.1)

      equal_on : (r s : Tree) → Below base r → Below base s → IsRecipe two (length first) r → IsRecipe two (length first) s → HaveOneValue theory first r s → HaveOneValue theory second r s
      equal_on r s l k h i q =
          let there = (e.same_equalities (replace away r) (replace away s) (recipe_away (length first) r same h) (recipe_away (length first) s same i)).0
          (record { value = replace away q.value; left = forth first here_first low_first r q.value q.left; right = forth first here_first low_first s q.value q.right }) in
          record { value = replace back there.value; left = home second here_second low_second r there.value l there.left; right = home second here_second low_second s there.value k there.right }

      equal_back : (r s : Tree) → Below base r → Below base s → IsRecipe two (length first) r → IsRecipe two (length first) s → HaveOneValue theory second r s → HaveOneValue theory first r s
      equal_back r s l k h i q =
          let there = (e.same_equalities (replace away r) (replace away s) (recipe_away (length first) r same h) (recipe_away (length first) s same i)).1
          (record { value = replace away q.value; left = forth second here_second low_second r q.value q.left; right = forth second here_second low_second s q.value q.right }) in
          record { value = replace back there.value; left = home first here_first low_first r there.value l there.left; right = home first here_first low_first s there.value k there.right }

pub names_unseen :
    (one two : Signature) (theory : Theory) (first second : List Tree)
    → shapes one ≡ shapes two
    → HasPlainRules theory
    → ((r : Rule) → HasRule theory r → HasNamesOf one r.left × HasNamesOf one r.right)
    → All (HasNamesOf one) first
    → All (HasNamesOf one) second
    → AreStaticallyEquivalent one theory first second
    → AreStaticallyEquivalent two theory first second
names_unseen one two theory first second same plain over h k e = record {
  same_length = e.same_length;
  same_successes = λ r i.
      (let b = frame_bound first + frame_bound second + bound r in
      let l = is_below r b (omega arith) in
      let p = frame_below first b (omega arith) in
      let q = frame_below second b (omega arith) in
      (succeeds_on one two theory b plain over first second h k p q same e r l i, succeeds_back one two theory b plain over first second h k p q same e r l i));
  same_equalities = λ r s i j.
      (let b = frame_bound first + frame_bound second + bound r + bound s in
      let l = is_below r b (omega arith) in
      let m = is_below s b (omega arith) in
      let p = frame_below first b (omega arith) in
      let q = frame_below second b (omega arith) in
      (equal_on one two theory b plain over first second h k p q same e r s l m i j, equal_back one two theory b plain over first second h k p q same e r s l m i j));
}
