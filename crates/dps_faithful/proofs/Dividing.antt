-- A split gives each solution of a node to just one of its kids.
use Rattle.std.proofs.Common.{◌≡◌, ℕ, ◌+◌, ◌≤◌, List, [], ◌∷◌, ◌++◌, map, length, refl, sym, ◌∙◌, ap, subst, inl, inr, arith, cond, Bool, false, Option, Some, None}
use Rattle.std.specs.Prelude.{Contains, All, filter, not, if◌then◌else◌}
use Rattle.std.specs.List.{flat_map}
use Rattle.std.proofs.lemmas.Bool.{cases_Bool, eqb-true}
use Rattle.std.proofs.lemmas.Option.{slice_get_within}
use Rattle.std.proofs.lemmas.List.Elements.{All-nil, All-cons, All-contains, All-push, Contains-push, filter-append}
use Rattle.std.proofs.lemmas.Map.Views.{Contains-from_any}
use Rattle.dps_terms.specs.Tree.{var, Tree, leaf, StandsIn, itself}
use Rattle.dps_terms.specs.Replace.{substitute, variables_to}
use Rattle.dps_terms.specs.Variables.{occurrences}
use Rattle.dps_terms.specs.Kinds.{AnySymbol, NoRigidName}
use Rattle.dps_terms.proofs.Building.{leaf_meets}
use Rattle.dps_solver.specs.Levels.{IsLeafUpTo}
use Rattle.dps_terms.specs.Same.{same, same-true}
use Rattle.dps_process.specs.Problem.{Problem}
use Rattle.dps_unify.specs.Order.{level_of}
use Rattle.dps_unify.specs.Matching.{Keeps}
use Rattle.dps_unify.proofs.Trees.{substitute_in_turn, substitute_agrees}
use Rattle.dps_know.proofs.Listing.{all_of}
use Rattle.dps_solver.specs.Scene.{Disequation, Ask}
use Rattle.dps_solver.specs.Solutions.{IsMatchedUnder}
use Rattle.dps_solver.specs.Search.{GeneralSolution}
use Rattle.dps_symeval.proofs.Listed.{contains_first, contains_later, mapped, from_mapped, from_joined, filtered, from_filtered}
use Rattle.dps_directions.specs.Shapes.{IsListedFor}
use Rattle.dps_directions.proofs.Beginning.{levels_cases}
use Rattle.dps_directions.proofs.Respecting.{ground_stays}
use Rattle.dps_node.specs.Node.{SymbolicConfig, Node, numbered_from, label_trees, variables_of, system_of, scene_of}
use Rattle.dps_renewal.specs.Numbering.{is_among}
use Rattle.dps_node.specs.Splits.{binding, new_variables, new_levels, IsConfigUnder, Applies, exclusion, excluded, IsSplit}
use Rattle.dps_node.specs.Meaning.{IsSolutionOf, AgreesWith, IsOfFirstKid, SplitsSolutions}
use Rattle.dps_node.specs.Invariant.{IsSound}
use Rattle.dps_node.proofs.Trees.{agree_back}
use Rattle.dps_faithful.specs.Laws.{HasLowNumbers}
use Rattle.dps_faithful.proofs.Lists.{among_true, in_range, nothing_more}
use Rattle.dps_faithful.proofs.Levels.{occurrence_stands, level_is_listed, listed_level, level_out}
use Rattle.dps_faithful.proofs.Validity.{label_tree_is}
use Rattle.dps_faithful.proofs.Deciding.{matched_or_not}
use Rattle.dps_faithful.proofs.Bindings.{in_new_binding}
use Rattle.dps_faithful.proofs.Kid.{kid_level, lowest}
use Rattle.dps_faithful.proofs.Solved.{solves_kid_over}
use Rattle.dps_faithful.proofs.Instances.{agrees_with_kid}

-- numbers that no label tree holds give no variable
numbered_append : (n : ℕ) (ls ms : List ℕ) → numbered_from n (ls ++ ms) ≡ numbered_from n ls ++ numbered_from (n + length ls) ms
numbered_append n [] ms = ap (λ k. numbered_from k ms) (omega arith)
numbered_append n (l ∷ ls) ms =
    ap (λ (ps : List (ℕ × ℕ)). (n, l) ∷ ps) (numbered_append (n + 1) ls ms ∙ ap (λ k. numbered_from (n + 1) ls ++ numbered_from k ms) (omega arith))

numbered_above : (k n : ℕ) (ls : List ℕ) → k ≤ n → All (λ (p : ℕ × ℕ). k ≤ p.0) (numbered_from n ls)
numbered_above k n [] h = All-nil (λ (p : ℕ × ℕ). k ≤ p.0)
numbered_above k n (l ∷ ls) h = All-cons (λ (p : ℕ × ℕ). k ≤ p.0) (n, l) (numbered_from (n + 1) ls) h (numbered_above k (n + 1) ls (omega (arith, h)))

filter_none : {X : Type 0} (P : X → Bool) (xs : List X) → ((x : X) → Contains xs x → P x ≡ false) → filter P xs ≡ []
filter_none P [] h = refl
filter_none P (x ∷ xs) h =
    ap (λ b. cond b (x ∷ filter P xs) (filter P xs)) (h x (contains_first x xs)) ∙ filter_none P xs (λ y c. h y (contains_later x xs y c))

chosen_level : Option ℕ → Tree → Tree → Tree
chosen_level (Some k) t u = t
chosen_level None t u = u

module _ (problem : Problem) (node : Node) (sound : IsSound problem node) (c : SymbolicConfig) (ask : Ask) (solution : GeneralSolution)
    (found : IsListedFor NoRigidName (scene_of node c) ask solution) where
  abbrev put : ℕ → Tree
  put = binding node solution.bindings

  abbrev other : Node
  other = excluded node solution.bindings

  abbrev barred : Disequation
  barred = exclusion node solution.bindings

  abbrev test : ℕ × ℕ → Bool
  test p = is_among p.0 (flat_map occurrences (label_trees node))

  label_level : (u : Tree) → Contains (label_trees node) u → (x : ℕ) → StandsIn (var x) u → x ≤ length node.levels
  label_level u h x k =
      let b = leaf_meets (IsLeafUpTo NoRigidName node.m node.know (variables_of node) node.m) AnySymbol (label_tree_is problem node sound u h).level k in
      let j = level_out node x b.0 b.1 in
      let within = slice_get_within node.levels j.0 b.0 j.2 in omega (arith, j.1, within)

  -- the second kid has the node's variables
  pub same_variables : variables_of other ≡ variables_of node
  same_variables =
      ap (filter test) (numbered_append 1 node.levels (new_levels node solution.bindings))
      ∙ filter-append test (numbered_from 1 node.levels) (numbered_from (1 + length node.levels) (new_levels node solution.bindings))
      ∙ nothing_more (filter test (numbered_from 1 node.levels)) (filter test (numbered_from (1 + length node.levels) (new_levels node solution.bindings)))
      (filter_none test (numbered_from (1 + length node.levels) (new_levels node solution.bindings)) unlabelled)
    where
      unlabelled : (p : ℕ × ℕ) → Contains (numbered_from (1 + length node.levels) (new_levels node solution.bindings)) p → test p ≡ false
      unlabelled p h = elim (cases_Bool (is_among p.0 (flat_map occurrences (label_trees node)))) [
        | inr e ↦ e
        | inl e ↦ absurd (
            let t = from_joined occurrences (label_trees node) p.0 (Contains-from_any (λ (i j : ℕ). eqb-true i j) p.0 (flat_map occurrences (label_trees node)) e) in
            let low = label_level t.0 t.1 p.0 (occurrence_stands t.0 p.0 t.2) in
            let high = All-contains (λ (q : ℕ × ℕ). 1 + length node.levels ≤ q.0) (numbered_from (1 + length node.levels) (new_levels node solution.bindings)) p
            (numbered_above (1 + length node.levels) (1 + length node.levels) (new_levels node solution.bindings) (omega arith)) h in
            omega (arith, low, high))
      ]

  pub to_other : (x : ℕ) (o : Option ℕ) → level_of (variables_of node) x ≡ o → level_of (variables_of other) x ≡ o
  to_other x o e = ap (λ (ls : List (ℕ × ℕ)). level_of ls x) same_variables ∙ e

  pub from_other : (x : ℕ) (o : Option ℕ) → level_of (variables_of other) x ≡ o → level_of (variables_of node) x ≡ o
  from_other x o e = ap (λ (ls : List (ℕ × ℕ)). level_of ls x) (sym same_variables) ∙ e

  pub solves_other : (s : ℕ → Tree) → IsSolutionOf problem.signature node s → ¬ IsMatchedUnder s barred → IsSolutionOf problem.signature other s
  solves_other s solves none = record {
    solution = record {
      choice = record {
        trees = λ x l e. solves.solution.choice.trees x l (from_other x (Some l) e);
        others = λ x e. solves.solution.choice.others x (from_other x None e);
      };
      normal = λ x l e. solves.solution.normal x l (from_other x (Some l) e);
      respects = record {
        labels = solves.solution.respects.labels;
        disequations = All-push (λ d. ¬ IsMatchedUnder s d) node.disequations barred solves.solution.respects.disequations none;
      };
    };
    over = λ x l e. solves.over x l (from_other x (Some l) e);
  }

  under_other : (s : ℕ → Tree) (k l : SymbolicConfig) → IsConfigUnder other s k l → IsConfigUnder node s k l
  under_other s k l h = record { side = h.side; values = h.values; frame = h.frame; parts = h.parts; mixed = h.mixed }

  other_under : (s : ℕ → Tree) (k l : SymbolicConfig) → IsConfigUnder node s k l → IsConfigUnder other s k l
  other_under s k l h = record { side = h.side; values = h.values; frame = h.frame; parts = h.parts; mixed = h.mixed }

  pub agrees_with_other : (s : ℕ → Tree) → AgreesWith node s other s
  agrees_with_other s = record {
    word = refl;
    instances = λ side d. (
      λ h. record { config = h.config; listed = h.listed; of_side = h.of_side; ground = h.ground; under = under_other s h.config h.ground h.under; parts = h.parts; frame = h.frame },
      λ h. record { config = h.config; listed = h.listed; of_side = h.of_side; ground = h.ground; under = other_under s h.config h.ground h.under; parts = h.parts; frame = h.frame },
    );
  }

  module _ (kid : Node) (applies : Applies node solution.bindings kid) (low : HasLowNumbers kid) where
    -- trees that match the pairs give the solution of the first kid
    module _ (s : ℕ → Tree) (solves : IsSolutionOf problem.signature node s) (r : ℕ → Tree)
        (all : All (λ (p : Tree × Tree). substitute r p.1 ≡ p.0) (map (λ (p : Tree × Tree). (substitute s p.0, substitute s p.1)) barred.pairs)) where
      part : ℕ → Tree
      part y = chosen_level (level_of (variables_of kid) y) (substitute r (s y)) (leaf (var y))

      part_here : (y k : ℕ) → level_of (variables_of kid) y ≡ Some k → part y ≡ substitute r (s y)
      unfolding part chosen_level
      part_here y k e = ap (λ (o : Option ℕ). chosen_level o (substitute r (s y)) (leaf (var y))) e

      part_else : (y : ℕ) → level_of (variables_of kid) y ≡ None → part y ≡ leaf (var y)
      unfolding part chosen_level
      part_else y e = ap (λ (o : Option ℕ). chosen_level o (substitute r (s y)) (leaf (var y))) e

      put_again : (x l : ℕ) → level_of (variables_of node) x ≡ Some l → substitute part (put x) ≡ substitute r (substitute s (put x))
      put_again x l e =
          substitute_agrees part (λ y. substitute r (s y)) (put x) (λ y h.
          let k = kid_level problem node sound c ask solution found kid applies x l y e h in part_here y k.0 k.1)
          ∙ sym (substitute_in_turn r s (put x))

      gives : (x l : ℕ) → level_of (variables_of node) x ≡ Some l → s x ≡ substitute part (put x)
      gives x l e = elim (cases_Bool (same (put x) (leaf (var x)))) [
        | inl d ↦
            let is = same-true (put x) (leaf (var x)) d in
            sym (put_again x l e ∙ ap (λ (u : Tree). substitute r (substitute s u)) is ∙ ground_stays NoRigidName (system_of node) l (s x) r (solves.solution.choice.trees x l e))
        | inr d ↦
            let pair = mapped {B = Tree × Tree} (λ (p : ℕ × ℕ). (leaf (var p.0), put p.0)) (filter (λ (p : ℕ × ℕ). not (same (put p.0) (leaf (var p.0)))) (variables_of node)) (x, l)
            (filtered (λ (p : ℕ × ℕ). not (same (put p.0) (leaf (var p.0)))) (variables_of node) (x, l) (level_is_listed (variables_of node) x l e) (ap not d)) in
            let matches = All-contains (λ (p : Tree × Tree). substitute r p.1 ≡ p.0) (map (λ (p : Tree × Tree). (substitute s p.0, substitute s p.1)) barred.pairs) (s x, substitute s (put x)) all
            (mapped {B = Tree × Tree} (λ (p : Tree × Tree). (substitute s p.0, substitute s p.1)) barred.pairs (leaf (var x), put x) pair) in
            sym (put_again x l e ∙ matches)
      ]

      pub of_first : (t : ℕ → Tree) × IsOfFirstKid problem.signature node solution.bindings kid s t × AgreesWith node s kid t
      of_first =
          let there = solves_kid_over problem node sound c ask solution found kid applies s part gives solves.solution.choice.others part_else solves in (
            part,
            record { solves = there; gives = gives },
            agrees_with_kid problem node sound c ask solution found kid applies s part gives low there.solution.choice solves.solution.choice,
          )

    -- what the bindings become under a solution of the first kid matches them
    module _ (s t : ℕ → Tree) (of : IsOfFirstKid problem.signature node solution.bindings kid s t) (solves : IsSolutionOf problem.signature other s) where
      back : ℕ → Tree
      back y = if is_among y barred.free then t y else leaf (var y)

      back_free : (y : ℕ) → Contains barred.free y → back y ≡ t y
      unfolding back
      back_free y h = ap (λ b. cond b (t y) (leaf (var y))) (among_true barred.free y h)

      back_keeps : Keeps barred.free back
      unfolding back
      back_keeps y h = elim (cases_Bool (is_among y barred.free)) [
        | inl e ↦ absurd (h (Contains-from_any (λ (i j : ℕ). eqb-true i j) y barred.free e))
        | inr e ↦ ap (λ b. cond b (t y) (leaf (var y))) e
      ]

      at_variable : (x l y : ℕ) → level_of (variables_of node) x ≡ Some l → StandsIn (var y) (put x) → substitute back (s y) ≡ t y
      at_variable x l y e h = elim (in_new_binding node c ask solution found x l y e h) [
        | inl old ↦
            ground_stays NoRigidName (system_of node) old.k (s y) back (solves.solution.choice.trees y old.k (to_other y (Some old.k) old.level))
            ∙ of.gives y old.k old.level ∙ ap (substitute t) old.itself
        | inr new ↦
            let within = slice_get_within (new_variables node solution.bindings) new.i new.v new.place in
            let none : level_of (variables_of node) y ≡ None = unknown y new.i new.number in
            ap (substitute back) (solves.solution.choice.others y (to_other y None none))
            ∙ back_free y (in_range (length node.levels + 1) (length (new_variables node solution.bindings)) new.i y within new.number)
      ]
        where
          unknown : (y i : ℕ) → y ≡ length node.levels + 1 + i → level_of (variables_of node) y ≡ None
          unknown y i number = elim (levels_cases (level_of (variables_of node) y)) [
            | inl e ↦ e
            | inr e ↦ absurd (
                let j = level_out node y e.0 e.1 in
                let within = slice_get_within node.levels j.0 e.0 j.2 in omega (arith, j.1, within, number))
          ]

      matched : IsMatchedUnder s barred
      matched = (back, back_keeps, all_of (λ (p : Tree × Tree). substitute back p.1 ≡ p.0) (map (λ (p : Tree × Tree). (substitute s p.0, substitute s p.1)) barred.pairs) each)
        where
          each : (q : Tree × Tree) → Contains (map (λ (p : Tree × Tree). (substitute s p.0, substitute s p.1)) barred.pairs) q → substitute back q.1 ≡ q.0
          each q h =
              let p = from_mapped {B = Tree × Tree} (λ (p : Tree × Tree). (substitute s p.0, substitute s p.1)) barred.pairs q h in
              let x = from_mapped {B = Tree × Tree} (λ (p : ℕ × ℕ). (leaf (var p.0), put p.0)) (filter (λ (p : ℕ × ℕ). not (same (put p.0) (leaf (var p.0)))) (variables_of node)) p.0 p.1 in
              let v = from_filtered (λ (p : ℕ × ℕ). not (same (put p.0) (leaf (var p.0)))) (variables_of node) x.0 x.1 in
              let level = listed_level node x.0 v.0 in
              subst (λ (w : Tree × Tree). substitute back w.1 ≡ w.0) (sym p.2)
              (subst (λ (w : Tree × Tree). substitute back (substitute s w.1) ≡ substitute s w.0) (sym x.2)
              (substitute_in_turn back s (put x.0.0) ∙ substitute_agrees (λ y. substitute back (s y)) t (put x.0.0) (λ y k. at_variable x.0.0 x.0.1 y level k)
              ∙ sym (of.gives x.0.0 x.0.1 level)))

      pub never_both : ⊥
      never_both = All-contains (λ d. ¬ IsMatchedUnder s d) (node.disequations ++ barred ∷ []) barred solves.solution.respects.disequations (Contains-push node.disequations barred) matched

    only_one : (s t u : ℕ → Tree) → IsOfFirstKid problem.signature node solution.bindings kid s t → IsOfFirstKid problem.signature node solution.bindings kid s u → (y : ℕ) → t y ≡ u y
    only_one s t u one two y = elim (levels_cases (level_of (variables_of kid) y)) [
      | inl e ↦ one.solves.solution.choice.others y e ∙ sym (two.solves.solution.choice.others y e)
      | inr e ↦
          let x = lowest problem node sound c ask solution found kid applies y e.0 e.1 in
          agree_back (variables_to t) (variables_to u) (put x.x) (var y) (sym (one.gives x.x e.0 x.level) ∙ two.gives x.x e.0 x.level) x.stands
    ]

    pub divides : SplitsSolutions problem node solution.bindings kid other
    divides = record {
      of_one = λ s solves. elim (matched_or_not barred.free (map (λ (p : Tree × Tree). (substitute s p.0, substitute s p.1)) barred.pairs)) [
        | inl m ↦ inl (of_first s solves m.0 m.2)
        | inr n ↦ inr (solves_other s solves n, agrees_with_other s)
      ];
      not_both = λ s t of solves. never_both s t of solves;
      once = λ s t u one two. λ i y. only_one s t u one two y i;
    }

pub split_divides : (problem : Problem) (node first second : Node) (c : SymbolicConfig) (ask : Ask) (solution : GeneralSolution) → IsSound problem node
    → IsListedFor NoRigidName (scene_of node c) ask solution → IsSplit node solution.bindings (first ∷ second ∷ []) → HasLowNumbers first
    → SplitsSolutions problem node solution.bindings first second
split_divides problem node first second c ask solution sound found split low =
    let one : split.0 ≡ first = at first second split.0 (excluded node solution.bindings) split.2 in
    let two : excluded node solution.bindings ≡ second = and_at first second split.0 (excluded node solution.bindings) split.2 in
    subst (λ (q : Node). SplitsSolutions problem node solution.bindings first q) two
    (subst (λ (q : Node). SplitsSolutions problem node solution.bindings q (excluded node solution.bindings)) one
    (divides problem node sound c ask solution found split.0 split.1 (subst HasLowNumbers (sym one) low)))
  where
    at : (x y z w : Node) → x ∷ y ∷ [] ≡ z ∷ w ∷ [] → z ≡ x
    at x y z w e = cc

    and_at : (x y z w : Node) → x ∷ y ∷ [] ≡ z ∷ w ∷ [] → w ≡ y
    and_at x y z w e = cc
