-- The second kid of a split keeps the invariant.
use Rattle.std.proofs.Common.{◌≡◌, ℕ, ◌+◌, ◌≤◌, List, [], ◌∷◌, ◌++◌, map, length, refl, sym, ◌∙◌, ap, subst, inl, inr, arith, cond, Option, Some, None}
use Rattle.std.specs.Prelude.{◌⊎◌, Contains, All, IsSome, filter, not, if◌then◌else◌}
use Rattle.std.proofs.lemmas.Bool.{cases_Bool, eqb-true}
use Rattle.std.proofs.lemmas.List.{length-append, length-map}
use Rattle.std.proofs.lemmas.Option.{slice_get_within}
use Rattle.std.proofs.lemmas.List.Elements.{All-contains, All-weaker, All-push, Contains-append_left}
use Rattle.std.proofs.lemmas.Map.Views.{Contains-from_any}
use Rattle.dps_branch.specs.declared.Side.{Side}
use Rattle.dps_terms.specs.Tree.{Leaf, public, private, var, ax, entry, rigid, Tree, leaf, app, StandsIn}
use Rattle.dps_terms.specs.Replace.{substitute, variables_to}
use Rattle.dps_terms.specs.Kinds.{IsBuiltOf, AnySymbol, NoRigidName}
use Rattle.dps_terms.specs.Same.{same, same-true}
use Rattle.dps_signature.specs.Signature.{HasShape, HasArity, shapes}
use Rattle.dps_signature.specs.declared.SymKind.TheVariants.{Constructor}
use Rattle.dps_terms.proofs.Building.{leaf_meets, built_of, built_weaker, built_instance}
use Rattle.dps_process.specs.Process.{Process}
use Rattle.dps_process.specs.Problem.{Problem}
use Rattle.dps_process.specs.Steps.{Config}
use Rattle.dps_unify.specs.Order.{level_of}
use Rattle.dps_unify.specs.Matching.{Keeps}
use Rattle.dps_unify.proofs.Trees.{substitute_in_turn, substitute_agrees, substitute_itself}
use Rattle.dps_know.specs.Know.{compositions}
use Rattle.dps_know.proofs.Listing.{all_of}
use Rattle.dps_solver.specs.Levels.{IsLeafUpTo, IsTreeUpTo}
use Rattle.dps_solver.specs.Scene.{Disequation, Ask}
use Rattle.dps_solver.specs.Solutions.{identity, IsMatched, IsMatchedUnder, Respects, IsSolution}
use Rattle.dps_solver.specs.Search.{GeneralSolution, IsPlain}
use Rattle.dps_symeval.proofs.Listed.{mapped, from_mapped, filtered, from_filtered}
use Rattle.dps_directions.specs.Valid.{IsComposed}
use Rattle.dps_directions.specs.Shapes.{IsListedFor, ExcludesBindings}
use Rattle.dps_directions.proofs.Beginning.{levels_cases}
use Rattle.dps_directions.proofs.Directed.{excluded_bindings}
use Rattle.dps_node.specs.Node.{SymbolicConfig, Node, variables_of, system_of, scene_of}
use Rattle.dps_renewal.specs.Numbering.{is_among}
use Rattle.dps_node.specs.Splits.{binding, new_variables, new_level, IsConfigUnder, Applies, exclusion, excluded, IsSplit}
use Rattle.dps_node.specs.Meaning.{IsTreeOver, IsSolutionOf, IsInstance, IsClosedInMeaning}
use Rattle.dps_node.specs.Invariant.{messages_in, HasNoOwnName, IsNoOwnName, IsOfNode, IsNodeTree, IsMessageLeaf, IsNodeMessage}
use Rattle.dps_node.specs.Invariant.{IsNodePart, IsEntryRecipeLeaf, IsPatternLeafOf, IsNodeDisequation, known_level, HasLevels}
use Rattle.dps_node.specs.Invariant.{HasOlderParts, HasFacts, IsSound}
use Rattle.dps_faithful.specs.Laws.{HasLowNumbers, BindsTrees}
use Rattle.dps_faithful.proofs.Lists.{among_true, in_range, from_range}
use Rattle.dps_faithful.proofs.Levels.{level_is_listed, listed_level, level_out}
use Rattle.dps_solver.proofs.Each.{contains_at}
use Rattle.dps_faithful.proofs.Bindings.{first, news, renumbered, counted_cases, is_new, comes_with, in_binding, in_new_binding}
use Rattle.dps_faithful.proofs.Dividing.{same_variables, to_other}
use Rattle.dps_faithful.proofs.Validity.{known_low}
use Rattle.dps_faithful.proofs.Inheriting.{put_level, put_over}
use Rattle.dps_node.proofs.Truth.{level_meets}

module _ (problem : Problem) (node : Node) (sound : IsSound problem node) (c : SymbolicConfig) (ask : Ask) (solution : GeneralSolution)
    (found : IsListedFor NoRigidName (scene_of node c) ask solution) (binds : BindsTrees problem.signature solution)
    (kid : Node) (applies : Applies node solution.bindings kid) (low : HasLowNumbers kid) where
  abbrev put : ℕ → Tree
  put = binding node solution.bindings

  abbrev other : Node
  other = excluded node solution.bindings

  abbrev barred : Disequation
  barred = exclusion node solution.bindings

  -- the node's variables and their levels stay
  abbrev moved : (x : ℕ) (l : ℕ) → level_of (variables_of node) x ≡ Some l → level_of (variables_of other) x ≡ Some l
  moved x l e = to_other problem node sound c ask solution found x (Some l) e

  leaf_of_other : (l : ℕ) (x : Leaf) → IsLeafUpTo NoRigidName node.m node.know (variables_of node) l x → IsLeafUpTo NoRigidName node.m node.know (variables_of other) l x
  leaf_of_other l (public n) h = h
  leaf_of_other l (private n) h = h
  leaf_of_other l (ax n) h = h
  leaf_of_other l (entry n) h = h
  leaf_of_other l (rigid n) h = h
  leaf_of_other l (var n) h = (h.0, moved n h.0 h.1, h.2)

  level_of_other : (l : ℕ) (t : Tree) → IsTreeUpTo NoRigidName node.m node.know (variables_of node) l t → IsTreeUpTo NoRigidName node.m node.know (variables_of other) l t
  level_of_other l t h = built_weaker (IsLeafUpTo NoRigidName node.m node.know (variables_of node) l) AnySymbol (IsLeafUpTo NoRigidName node.m node.know (variables_of other) l) t h (leaf_of_other l)

  tree_of_other : (l : ℕ) (t : Tree) → IsNodeTree problem.signature node l t → IsNodeTree problem.signature other l t
  tree_of_other l t h = record { over = h.over; declared_names = h.declared_names; level = level_of_other l t h.level }

  some_of : (o p : Option ℕ) → p ≡ o → IsSome o → IsSome p
  some_of o p e h = subst IsSome (sym e) h

  of_other : (x : ℕ) → IsOfNode node x → IsOfNode other x
  of_other x h = some_of (level_of (variables_of node) x) (level_of (variables_of other) x) (ap (λ (ls : List (ℕ × ℕ)). level_of ls x) (same_variables problem node sound c ask solution found)) h

  message_leaf : (x : Leaf) → IsMessageLeaf problem.signature node x → IsMessageLeaf problem.signature other x
  message_leaf (public n) h = h
  message_leaf (private n) h = h
  message_leaf (ax n) h = h
  message_leaf (entry n) h = h
  message_leaf (rigid n) h = h
  message_leaf (var n) h = of_other n h

  message_of_other : (t : Tree) → IsNodeMessage problem.signature node t → IsNodeMessage problem.signature other t
  message_of_other t h = built_weaker (IsMessageLeaf problem.signature node) (HasShape (shapes problem.signature) Constructor) (IsMessageLeaf problem.signature other) t h message_leaf

  recipe_leaf : (i l : ℕ) (x : Leaf) → IsEntryRecipeLeaf problem.signature node i l x → IsEntryRecipeLeaf problem.signature other i l x
  recipe_leaf i l (public n) h = h
  recipe_leaf i l (private n) h = h
  recipe_leaf i l (ax n) h = h
  recipe_leaf i l (entry n) h = h
  recipe_leaf i l (rigid n) h = h
  recipe_leaf i l (var n) h = (h.0, moved n h.0 h.1, h.2)

  pattern_leaf : (free : List ℕ) (x : Leaf) → IsPatternLeafOf node free x → IsPatternLeafOf other free x
  pattern_leaf free x (inl h) = inl (leaf_of_other node.m x h)
  pattern_leaf free x (inr h) = inr h

  part_of_other : (p : Process) → IsNodePart problem.signature node p → IsNodePart problem.signature other p
  part_of_other p h = record { terms = h.terms; channels = h.channels; binders = h.binders; free = λ x k. of_other x (h.free x k) }

  longer : length other.levels ≡ length node.levels + length (new_variables node solution.bindings)
  longer =
      length-append node.levels (map (new_level node solution.bindings) (new_variables node solution.bindings))
      ∙ ap (λ n. length node.levels + n) (length-map (new_variables node solution.bindings) (new_level node solution.bindings))

  disequation_of_other : (d : Disequation) → IsNodeDisequation problem.signature node d → IsNodeDisequation problem.signature other d
  disequation_of_other d h = record {
    trees =
        All-weaker (λ (p : Tree × Tree). IsNodeTree problem.signature node node.m p.0)
        (λ (p : Tree × Tree). IsNodeTree problem.signature other node.m p.0) (λ p k. tree_of_other node.m p.0 k) d.pairs
        h.trees;
    patterns = All-weaker (λ (p : Tree × Tree). IsTreeOver problem.signature p.1 × HasNoOwnName p.1 × IsBuiltOf (IsPatternLeafOf node d.free) AnySymbol p.1)
        (λ (p : Tree × Tree). IsTreeOver problem.signature p.1 × HasNoOwnName p.1 × IsBuiltOf (IsPatternLeafOf other d.free) AnySymbol p.1)
        (λ p k. (k.0, k.1, built_weaker (IsPatternLeafOf node d.free) AnySymbol (IsPatternLeafOf other d.free) p.1 k.2 (pattern_leaf d.free))) d.pairs h.patterns;
    free = All-weaker (λ x. (x ≤ length node.levels) × (level_of (variables_of node) x ≡ None)) (λ x. (x ≤ length other.levels) × (level_of (variables_of other) x ≡ None))
        (λ x k. (omega (arith, k.0, longer), to_other problem node sound c ask solution found x None k.1)) d.free h.free;
  }

  -- the disequation that is added
  record IsBarredPair (q : Tree × Tree) : Type 0 where
    pub x : ℕ
    pub l : ℕ
    pub level : level_of (variables_of node) x ≡ Some l
    pub is : q ≡ (leaf (var x), put x)

  barred_pair : (q : Tree × Tree) → Contains barred.pairs q → IsBarredPair q
  barred_pair q h =
      let p = from_mapped {B = Tree × Tree} (λ (p : ℕ × ℕ). (leaf (var p.0), put p.0)) (filter (λ (p : ℕ × ℕ). not (same (put p.0) (leaf (var p.0)))) (variables_of node)) q h in
      let v = from_filtered (λ (p : ℕ × ℕ). not (same (put p.0) (leaf (var p.0)))) (variables_of node) p.0 p.1 in
      record { x = p.0.0; l = p.0.1; level = listed_level node p.0 v.0; is = p.2 }

  unknown : (y i : ℕ) → y ≡ length node.levels + 1 + i → level_of (variables_of node) y ≡ None
  unknown y i number = elim (levels_cases (level_of (variables_of node) y)) [
    | inl e ↦ e
    | inr e ↦ absurd (
        let j = level_out node y e.0 e.1 in
        let within = slice_get_within node.levels j.0 e.0 j.2 in omega (arith, j.1, within, number))
  ]

  low_level : (x l : ℕ) → level_of (variables_of node) x ≡ Some l → l ≤ node.m
  low_level x l e =
      let up = level_meets (λ (p : ℕ × ℕ). p.1 ≤ known_level node) (variables_of node) x l sound.levels.variables e in omega (arith, up, known_low problem node sound)

  put_variable : (x l w : ℕ) → level_of (variables_of node) x ≡ Some l → StandsIn (var w) (put x)
      → IsLeafUpTo NoRigidName node.m node.know (variables_of other) node.m (var w) ⊎ ((n : ℕ) × (var w ≡ var n) × Contains barred.free n)
  put_variable x l w e h = elim (in_new_binding node c ask solution found x l w e h) [
    | inl old ↦ let up = low_level x l e in inl (old.k, moved w old.k old.level, omega (arith, old.low, up))
    | inr new ↦
        let within = slice_get_within (new_variables node solution.bindings) new.i new.v new.place in
        inr (w, refl, in_range (length node.levels + 1) (length (new_variables node solution.bindings)) new.i w within new.number)
  ]

  put_leaf : (x l : ℕ) → level_of (variables_of node) x ≡ Some l → (z : Leaf) → StandsIn z (put x) → IsPatternLeafOf other barred.free z
  put_leaf x l e z h =
      at z h (leaf_meets (IsLeafUpTo NoRigidName node.m node.know (variables_of kid) l) AnySymbol (put_level problem node sound c ask solution found kid applies binds low x l e) h)
    where
      at : (z : Leaf) → StandsIn z (put x) → IsLeafUpTo NoRigidName node.m node.know (variables_of kid) l z → IsPatternLeafOf other barred.free z
      at (public n) h k = inl tt
      at (private n) h k = absurd k
      at (ax n) h k = absurd k
      at (entry n) h k = let up = low_level x l e in inl (k.0, k.1, omega (arith, k.2, up))
      at (rigid n) h k = absurd k.0
      at (var n) h k = put_variable x l n e h

  own_leaf : (z : Leaf) → IsNoOwnName z → HasNoOwnName (variables_to (renumbered node c ask solution found) z)
  own_leaf (public n) h = h
  own_leaf (private n) h = tt
  own_leaf (ax n) h = tt
  own_leaf (entry n) h = tt
  own_leaf (rigid n) h = tt
  own_leaf (var n) h = elim (counted_cases (first node c ask solution found) (news node c ask solution found) n) [
    | inl d ↦ subst HasNoOwnName (sym d.2) tt
    | inr d ↦ subst HasNoOwnName (sym d.1) tt
  ]

  pub put_own : (x : ℕ) → HasNoOwnName (put x)
  put_own x = built_instance IsNoOwnName AnySymbol IsNoOwnName (variables_to (renumbered node c ask solution found)) (solution.bindings x) (binds.own x) (λ z h k. own_leaf z k)

  barred_is : IsNodeDisequation problem.signature other barred
  barred_is = record {
    trees = all_of (λ (q : Tree × Tree). IsNodeTree problem.signature other node.m q.0) barred.pairs (λ q h.
        let p = barred_pair q h in
        let one : IsNodeTree problem.signature other node.m (leaf (var p.x)) = record { over = tt; declared_names = tt; level = (p.l, moved p.x p.l p.level, low_level p.x p.l p.level) } in
        subst (λ (w : Tree × Tree). IsNodeTree problem.signature other node.m w.0) (sym p.is) one);
    patterns = all_of (λ (q : Tree × Tree). IsTreeOver problem.signature q.1 × HasNoOwnName q.1 × IsBuiltOf (IsPatternLeafOf other barred.free) AnySymbol q.1) barred.pairs (λ q h.
        let p = barred_pair q h in
        subst (λ (w : Tree × Tree). IsTreeOver problem.signature w.1 × HasNoOwnName w.1 × IsBuiltOf (IsPatternLeafOf other barred.free) AnySymbol w.1) (sym p.is) (
          put_over problem node sound c ask solution found kid applies binds low p.x,
          put_own p.x,
          built_of (IsPatternLeafOf other barred.free) AnySymbol (put p.x) (put_leaf p.x p.l p.level) (λ f ts k. tt),
        ));
    free = all_of (λ y. (y ≤ length other.levels) × (level_of (variables_of other) y ≡ None)) barred.free (λ y h.
        let i = from_range (length node.levels + 1) (length (new_variables node solution.bindings)) y h in
        (omega (arith, i.1, i.2, longer), to_other problem node sound c ask solution found y None (unknown y i.0 i.2)));
  }

  -- the same disequation with the numbers of the search
  abbrev searched : Disequation
  searched =
      record {
        free = new_variables node solution.bindings;
        pairs = map (λ (p : ℕ × ℕ). (leaf (var p.0), solution.bindings p.0)) (filter (λ (p : ℕ × ℕ). not (same (put p.0) (leaf (var p.0)))) (variables_of node));
      }

  variable_at : (x : ℕ) (l : ℕ) → level_of (variables_of node) x ≡ Some l → (u : Tree) → substitute (renumbered node c ask solution found) u ≡ leaf (var x) → u ≡ leaf (var x)
  variable_at x l e (app f ts) h = cc
  variable_at x l e (leaf (public n)) h = cc
  variable_at x l e (leaf (private n)) h = cc
  variable_at x l e (leaf (ax n)) h = cc
  variable_at x l e (leaf (entry n)) h = cc
  variable_at x l e (leaf (rigid n)) h = cc
  variable_at x l e (leaf (var n)) h = elim (counted_cases (first node c ask solution found) (news node c ask solution found) n) [
    | inr d ↦ sym d.1 ∙ h
    | inl d ↦ absurd (
        let q : leaf (var (length node.levels + 1 + d.0)) ≡ leaf (var x) = sym d.2 ∙ h in
        let number : length node.levels + 1 + d.0 ≡ x = cc in
        let none = unknown x d.0 (sym number) in
        let k : None ≡ Some l = sym none ∙ e in cc)
  ]

  excludes : ExcludesBindings (scene_of node c) solution searched
  excludes = record {
    pairs = λ x l e differs.
        mapped {B = Tree × Tree} (λ (p : ℕ × ℕ). (leaf (var p.0), solution.bindings p.0)) (filter (λ (p : ℕ × ℕ). not (same (put p.0) (leaf (var p.0)))) (variables_of node)) (x, l)
        (filtered (λ (p : ℕ × ℕ). not (same (put p.0) (leaf (var p.0)))) (variables_of node) (x, l) (level_is_listed (variables_of node) x l e)
        (elim (cases_Bool (same (put x) (leaf (var x)))) [
          | inr d ↦ ap not d
          | inl d ↦ absurd (differs (variable_at x l e (solution.bindings x) (same-true (put x) (leaf (var x)) d)))
        ]));
    free = λ y h. (comes_with node c ask solution found y h).no_level;
  }

  module _ (m : IsMatchedUnder identity barred) where
    back : ℕ → Tree
    back v = if is_among v (new_variables node solution.bindings) then substitute m.0 (renumbered node c ask solution found v) else leaf (var v)

    back_keeps : Keeps (new_variables node solution.bindings) back
    unfolding back
    back_keeps v h = elim (cases_Bool (is_among v (new_variables node solution.bindings))) [
      | inl e ↦ absurd (h (Contains-from_any (λ (i j : ℕ). eqb-true i j) v (new_variables node solution.bindings) e))
      | inr e ↦ ap (λ b. cond b (substitute m.0 (renumbered node c ask solution found v)) (leaf (var v))) e
    ]

    back_new : (v : ℕ) → Contains (new_variables node solution.bindings) v → back v ≡ substitute m.0 (renumbered node c ask solution found v)
    unfolding back
    back_new v h = ap (λ b. cond b (substitute m.0 (renumbered node c ask solution found v)) (leaf (var v))) (among_true (new_variables node solution.bindings) v h)

    not_free : (v : ℕ) → v ≤ length node.levels → ¬ Contains barred.free v
    not_free v up h = let i = from_range (length node.levels + 1) (length (new_variables node solution.bindings)) v h in omega (arith, i.2, up)

    back_at : (x l v : ℕ) → level_of (variables_of node) x ≡ Some l → StandsIn (var v) (solution.bindings x) → back v ≡ substitute m.0 (renumbered node c ask solution found v)
    back_at x l v e h = elim (in_binding node c ask solution found x l v e h) [
      | inr new ↦ back_new v (is_new node c ask solution found x l v e h new.no_level)
      | inl old ↦ elim (counted_cases (first node c ask solution found) (news node c ask solution found) v) [
        | inl d ↦ back_new v (contains_at (new_variables node solution.bindings) d.0 v d.1)
        | inr d ↦
            let j = level_out node v old.k old.level in
            let within = slice_get_within node.levels j.0 old.k j.2 in
            back_keeps v d.0 ∙ sym (ap (substitute m.0) d.1 ∙ m.1 v (not_free v (omega (arith, j.1, within))))
      ]
    ]

    each : (q : Tree × Tree) → Contains searched.pairs q → substitute back q.1 ≡ q.0
    each q h =
        let p = from_mapped {B = Tree × Tree} (λ (p : ℕ × ℕ). (leaf (var p.0), solution.bindings p.0)) (filter (λ (p : ℕ × ℕ). not (same (put p.0) (leaf (var p.0)))) (variables_of node)) q h in
        let v = from_filtered (λ (p : ℕ × ℕ). not (same (put p.0) (leaf (var p.0)))) (variables_of node) p.0 p.1 in
        let level = listed_level node p.0 v.0 in
        let pair = mapped {B = Tree × Tree} (λ (p : ℕ × ℕ). (leaf (var p.0), put p.0)) (filter (λ (p : ℕ × ℕ). not (same (put p.0) (leaf (var p.0)))) (variables_of node)) p.0 p.1 in
        let matches = All-contains (λ (w : Tree × Tree). substitute m.0 w.1 ≡ w.0) (map (λ (w : Tree × Tree). (substitute identity w.0, substitute identity w.1)) barred.pairs)
        (leaf (var p.0.0), substitute identity (put p.0.0)) m.2
        (mapped {B = Tree × Tree} (λ (w : Tree × Tree). (substitute identity w.0, substitute identity w.1)) barred.pairs (leaf (var p.0.0), put p.0.0) pair) in
        subst (λ (w : Tree × Tree). substitute back w.1 ≡ w.0) (sym p.2)
        (substitute_agrees back (λ n. substitute m.0 (renumbered node c ask solution found n)) (solution.bindings p.0.0) (λ n k. back_at p.0.0 p.0.1 n level k)
        ∙ sym (substitute_in_turn m.0 (renumbered node c ask solution found) (solution.bindings p.0.0))
        ∙ ap (substitute m.0) (sym (substitute_itself (put p.0.0))) ∙ matches)

    matched : IsMatched searched.free searched.pairs
    matched = (back, back_keeps, all_of (λ (w : Tree × Tree). substitute back w.1 ≡ w.0) searched.pairs each)

  module _ (bound : ¬ IsPlain solution) where
    -- it is not matched
    consistent_other : Respects (system_of other) identity
    consistent_other = record {
      labels = sound.consistent.labels;
      disequations = All-push (λ d. ¬ IsMatchedUnder identity d) node.disequations barred sound.consistent.disequations
          (λ m. excluded_bindings.narrow (scene_of node c) ask solution searched found bound excludes (matched m));
    }

    solves_node : (s : ℕ → Tree) → IsSolution NoRigidName (system_of other) s → IsSolution NoRigidName (system_of node) s
    solves_node s h = record {
      choice = record {
        trees = λ x l e. h.choice.trees x l (moved x l e);
        others = λ x e. h.choice.others x (to_other problem node sound c ask solution found x None e);
      };
      normal = λ x l e. h.normal x l (moved x l e);
      respects = record {
        labels = h.respects.labels;
        disequations = all_of (λ d. ¬ IsMatchedUnder s d) node.disequations (λ d k.
            All-contains (λ d. ¬ IsMatchedUnder s d) (node.disequations ++ barred ∷ []) d h.respects.disequations (Contains-append_left node.disequations (barred ∷ []) d k));
      };
    }

    solves_over : (s : ℕ → Tree) → IsSolutionOf problem.signature other s → IsSolutionOf problem.signature node s
    solves_over s h = record { solution = solves_node s h.solution; over = λ x l e. h.over x l (moved x l e) }

    under_node : (s : ℕ → Tree) (k l : SymbolicConfig) → IsConfigUnder other s k l → IsConfigUnder node s k l
    under_node s k l h = record { side = h.side; values = h.values; frame = h.frame; parts = h.parts; mixed = h.mixed }

    instance_of : (s : ℕ → Tree) (side : Side) (d : Config) → IsInstance other s side d → IsInstance node s side d
    instance_of s side d h =
        record { config = h.config; listed = h.listed; of_side = h.of_side; ground = h.ground; under = under_node s h.config h.ground h.under; parts = h.parts; frame = h.frame }

    levels_of_other : HasLevels problem.signature other
    levels_of_other = record {
      length = sound.levels.length;
      rising = sound.levels.rising;
      entries = sound.levels.entries;
      variables = subst (λ (ls : List (ℕ × ℕ)). All (λ (p : ℕ × ℕ). p.1 ≤ known_level node) ls) (sym (same_variables problem node sound c ask solution found)) sound.levels.variables;
      labels = λ before after d t e. tree_of_other (messages_in before) t (sound.levels.labels before after d t e);
      in_work = sound.levels.in_work;
    }

    older_of_other : HasOlderParts problem.signature other
    older_of_other = record {
      recipes = λ i e there. built_weaker (IsEntryRecipeLeaf problem.signature node i e.level) (HasArity (shapes problem.signature)) (IsEntryRecipeLeaf problem.signature other i e.level) e.recipe
          (sound.older.recipes i e there) (recipe_leaf i e.level);
      values = λ k i e v there at value.
          let h = sound.older.values k i e v there at value in (h.0, λ x st. let d = h.1 x st in (d.0, moved x d.0 d.1, d.2));
      each_value = sound.older.each_value;
      each_message = sound.older.each_message;
      messages = All-weaker (λ (k : SymbolicConfig). All (IsNodeMessage problem.signature node) k.values × All (IsNodeMessage problem.signature node) k.frame)
          (λ (k : SymbolicConfig). All (IsNodeMessage problem.signature other) k.values × All (IsNodeMessage problem.signature other) k.frame)
          (λ k h. (
            All-weaker (IsNodeMessage problem.signature node) (IsNodeMessage problem.signature other) message_of_other k.values h.0,
            All-weaker (IsNodeMessage problem.signature node) (IsNodeMessage problem.signature other) message_of_other k.frame h.1,
          )) node.configs sound.older.messages;
      parts = All-weaker (λ (k : SymbolicConfig). All (IsNodePart problem.signature node) k.parts) (λ (k : SymbolicConfig). All (IsNodePart problem.signature other) k.parts)
          (λ k h. All-weaker (IsNodePart problem.signature node) (IsNodePart problem.signature other) part_of_other k.parts h) node.configs sound.older.parts;
      recorded = All-weaker (λ t. IsComposed t × IsNodeTree problem.signature node node.m t) (λ t. IsComposed t × IsNodeTree problem.signature other node.m t)
          (λ t h. (h.0, tree_of_other node.m t h.1)) (compositions node.know) sound.older.recorded;
      handles = All-weaker (IsNodeTree problem.signature node node.m) (IsNodeTree problem.signature other node.m) (tree_of_other node.m) node.know.handles sound.older.handles;
      examined = sound.older.examined;
      disequations = All-push (IsNodeDisequation problem.signature other) node.disequations barred
          (All-weaker (IsNodeDisequation problem.signature node) (IsNodeDisequation problem.signature other) disequation_of_other node.disequations sound.older.disequations) barred_is;
    }

    facts_of_other : (s : ℕ → Tree) (l : SymbolicConfig) → HasFacts node s l → HasFacts other s l
    facts_of_other s l h = record { new = h.new; recorded = h.recorded; arguments = h.arguments; unique = h.unique; simple = h.simple; handles = h.handles }

    closed_of_other : IsClosedInMeaning problem node → IsClosedInMeaning problem other
    closed_of_other h = record {
      equivalent = λ s one two d e solves left right. h.equivalent s one two d e (solves_over s solves) (instance_of s one d left) (instance_of s two e right);
      unique = λ s k l solves there under. h.unique s k l (solves_over s solves) there (under_node s k l under);
      computed = λ s side d r solves at recipe succeeds.
          let n = h.computed s side d r (solves_over s solves) (instance_of s side d at) recipe succeeds in
          record { tree = n.tree; over = n.over; ground = n.ground; normal = n.normal; value = λ k l there under. n.value k l there (under_node s k l under) };
    }

    pub other_is_sound : IsSound problem other
    other_is_sound = record {
      levels = levels_of_other;
      older = older_of_other;
      consistent = consistent_other;
      unmixed = sound.unmixed;
      facts = λ s k l solves there under. facts_of_other s l (sound.facts s k l (solves_node s solves) there (under_node s k l under));
      recipes = λ s k l solves there under. sound.recipes s k l (solves_over s solves) there (under_node s k l under);
      closed = λ e. closed_of_other (sound.closed e);
      done = sound.done;
    }

pub second_is_sound : (problem : Problem) (node first second : Node) (c : SymbolicConfig) (ask : Ask) (solution : GeneralSolution) → IsSound problem node
    → IsListedFor NoRigidName (scene_of node c) ask solution → BindsTrees problem.signature solution → ¬ IsPlain solution → IsSplit node solution.bindings (first ∷ second ∷ []) → HasLowNumbers first
    → IsSound problem second
second_is_sound problem node first second c ask solution sound found binds bound split low =
    let one : split.0 ≡ first = at first second split.0 (excluded node solution.bindings) split.2 in
    subst (λ (q : Node). IsSound problem q) (and_at first second split.0 (excluded node solution.bindings) split.2)
    (other_is_sound problem node sound c ask solution found binds split.0 split.1 (subst HasLowNumbers (sym one) low) bound)
  where
    at : (x y z w : Node) → x ∷ y ∷ [] ≡ z ∷ w ∷ [] → z ≡ x
    at x y z w e = cc

    and_at : (x y z w : Node) → x ∷ y ∷ [] ≡ z ∷ w ∷ [] → w ≡ y
    and_at x y z w e = cc
