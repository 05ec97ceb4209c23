-- The first kid of a split is consistent.
use Rattle.std.proofs.Common.{◌≡◌, ℕ, ◌+◌, ◌-◌, ◌<◌, ◌≤◌, List, [], map, length, refl, sym, ◌∙◌, ap, subst, inl, inr, arith, cond, Option, Some, None}
use Rattle.std.specs.Prelude.{◌⊎◌, Contains, All, slice_get, unwrap_or, if◌then◌else◌}
use Rattle.std.proofs.lemmas.Bool.{cases_Bool, cases_lt, eqb-true}
use Rattle.std.proofs.lemmas.List.Elements.{All-contains}
use Rattle.std.proofs.lemmas.Option.{slice_get_within}
use Rattle.std.proofs.lemmas.Map.Views.{Contains-from_any}
use Rattle.dps_terms.specs.Tree.{var, Tree, leaf, StandsIn, IsSubterm}
use Rattle.dps_terms.specs.Replace.{substitute, variables_to}
use Rattle.dps_terms.specs.Kinds.{IsBuiltOf, AnySymbol, NoRigidName}
use Rattle.dps_terms.proofs.Building.{leaf_meets}
use Rattle.dps_terms.proofs.Replacing.{keeps_subterms}
use Rattle.dps_process.specs.Problem.{Problem}
use Rattle.dps_unify.specs.Order.{level_of}
use Rattle.dps_unify.specs.Matching.{Keeps}
use Rattle.dps_unify.proofs.Trees.{substitute_in_turn, substitute_agrees, substitute_itself}
use Rattle.dps_know.specs.Know.{compositions}
use Rattle.dps_know.proofs.Listing.{all_of}
use Rattle.dps_solver.specs.Scene.{Disequation, Ask}
use Rattle.dps_solver.specs.Solutions.{identity, IsMatchedUnder, IsNormalUnder, Respects}
use Rattle.dps_solver.specs.Search.{GeneralSolution}
use Rattle.dps_symeval.proofs.Listed.{mapped, from_mapped}
use Rattle.dps_directions.specs.Shapes.{IsListedFor}
use Rattle.dps_directions.proofs.Directed.{outcome_of}
use Rattle.dps_node.specs.Node.{SymbolicConfig, Node, label_trees, variables_of, system_of, scene_of}
use Rattle.dps_renewal.specs.Numbering.{is_among}
use Rattle.dps_node.specs.Splits.{binding, disequation_under, Applies}
use Rattle.dps_node.specs.Meaning.{IsTreeOver}
use Rattle.dps_node.specs.Invariant.{HasNoOwnName, IsNodeTree, IsPatternLeafOf, IsSound}
use Rattle.dps_faithful.proofs.Lists.{among_true}
use Rattle.dps_faithful.proofs.Levels.{level_out}
use Rattle.dps_faithful.proofs.Validity.{disequation_at}
use Rattle.dps_faithful.proofs.Bindings.{first, news, renumbered, not_of_node, in_binding, in_system, is_new, counted_cases, free_stays}
use Rattle.dps_faithful.proofs.Leaves.{alone}
use Rattle.dps_faithful.proofs.Kid.{from_kid_label, label_known}
use Rattle.dps_faithful.proofs.Solved.{compositions_under, tree_known, recorded_known}

-- one of two by the order of numbers
by_order : (a b : ℕ) → (a < b) ⊎ (b ≤ a) → Tree → Tree → Tree
by_order a b (inl h) t u = t
by_order a b (inr h) t u = u

when_less : (a b : ℕ) (q : (a < b) ⊎ (b ≤ a)) (t u : Tree) → a < b → by_order a b q t u ≡ t
unfolding by_order
when_less a b (inl h) t u less = refl
when_less a b (inr h) t u less = absurd (omega (arith, h, less))

when_not : (a b : ℕ) (q : (a < b) ⊎ (b ≤ a)) (t u : Tree) → b ≤ a → by_order a b q t u ≡ u
unfolding by_order
when_not a b (inl h) t u more = absurd (omega (arith, h, more))
when_not a b (inr h) t u more = refl

module _ (problem : Problem) (node : Node) (sound : IsSound problem node) (c : SymbolicConfig) (ask : Ask) (solution : GeneralSolution)
    (found : IsListedFor NoRigidName (scene_of node c) ask solution) (kid : Node) (applies : Applies node solution.bindings kid) where
  abbrev put : ℕ → Tree
  put = binding node solution.bindings

  abbrev ren : ℕ → Tree
  ren = renumbered node c ask solution found

  abbrev start : ℕ
  start = length node.levels + 1

  abbrev IsKnown : ℕ → Type 0
  IsKnown x = (l : ℕ) × (level_of (variables_of node) x ≡ Some l)

  -- the numbers of the search
  back : ℕ → Tree
  back y = by_order y start (cases_lt y start) (leaf (var y)) (leaf (var (unwrap_or (slice_get (news node c ask solution found) (y - start)) y)))

  back_old : (y : ℕ) → y < start → back y ≡ leaf (var y)
  unfolding back
  back_old y h = when_less y start (cases_lt y start) (leaf (var y)) (leaf (var (unwrap_or (slice_get (news node c ask solution found) (y - start)) y))) h

  back_new : (y i v : ℕ) → y ≡ start + i → slice_get (news node c ask solution found) i ≡ Some v → back y ≡ leaf (var v)
  unfolding back
  back_new y i v number at =
      let place : y - start ≡ i = omega (arith, number) in
      when_not y start (cases_lt y start) (leaf (var y)) (leaf (var (unwrap_or (slice_get (news node c ask solution found) (y - start)) y))) (omega (arith, number))
      ∙ ap (λ j. leaf (var (unwrap_or (slice_get (news node c ask solution found) j) y))) place ∙ ap (λ (o : Option ℕ). leaf (var (unwrap_or o y))) at

  -- a variable of a binding comes back
  comes_back : (x l v : ℕ) → level_of (variables_of node) x ≡ Some l → StandsIn (var v) (solution.bindings x) → substitute back (ren v) ≡ leaf (var v)
  comes_back x l v e h = elim (counted_cases (first node c ask solution found) (news node c ask solution found) v) [
    | inl d ↦ ap (substitute back) d.2 ∙ back_new (first node c ask solution found + d.0) d.0 v refl d.1
    | inr d ↦ ap (substitute back) d.1 ∙ (elim (in_binding node c ask solution found x l v e h) [
      | inr new ↦ absurd (d.0 (is_new node c ask solution found x l v e h new.no_level))
      | inl old ↦
          let j = level_out node v old.k old.level in
          let within = slice_get_within node.levels j.0 old.k j.2 in
          back_old v (omega (arith, j.1, within))
    ])
  ]

  -- so a tree with renumbered bindings becomes one with the bindings
  tree_back : (u : Tree) → ((x : ℕ) → StandsIn (var x) u → IsKnown x) → substitute back (substitute put u) ≡ substitute solution.bindings u
  tree_back u known =
      substitute_in_turn back put u ∙ substitute_agrees (λ x. substitute back (put x)) solution.bindings u (λ x h. let l = known x h in one x l.0 l.1)
    where
      one : (x l : ℕ) → level_of (variables_of node) x ≡ Some l → substitute back (put x) ≡ solution.bindings x
      one x l e =
          substitute_in_turn back ren (solution.bindings x)
          ∙ substitute_agrees (λ v. substitute back (ren v)) (λ v. leaf (var v)) (solution.bindings x) (λ v h. comes_back x l v e h) ∙ substitute_itself (solution.bindings x)

  respects : Respects (system_of node) solution.bindings
  respects =
      let o = outcome_of NoRigidName (scene_of node c) ask solution found in
      subst (λ (z : ℕ → Tree). Respects (system_of node) z) (sym (ap (λ (q : GeneralSolution). q.bindings) o.is)) o.respects

  label_normal : (t : Tree) → Contains (label_trees kid) t → IsNormalUnder identity (system_of kid) (substitute identity t)
  label_normal t h r k inside =
      let u = from_kid_label problem node sound c ask solution found kid applies t h in
      let o = from_mapped (substitute identity) (compositions kid.know) r k in
      let q = from_mapped (substitute put) (compositions node.know) o.0 (subst (λ (ts : List Tree). Contains ts o.0) (ap compositions applies.know ∙ compositions_under put node.know.entries) o.1) in
      let in_put : IsSubterm (substitute put q.0) (substitute put u.0) =
      subst (λ (w : Tree). IsSubterm w (substitute put u.0)) (o.2 ∙ substitute_itself o.0 ∙ q.2) (subst (λ (w : Tree). IsSubterm r w) (substitute_itself t ∙ u.2) inside) in
      let in_bindings : IsSubterm (substitute solution.bindings q.0) (substitute solution.bindings u.0) =
      subst (λ (w : Tree). IsSubterm w (substitute solution.bindings u.0)) (tree_back q.0 (recorded_known problem node sound c ask solution found kid applies q.0 q.1))
      (subst (λ (w : Tree). IsSubterm (substitute back (substitute put q.0)) w) (tree_back u.0 (label_known problem node sound c ask solution found kid applies u.0 u.1)) (keeps_subterms (variables_to back) in_put)) in
      All-contains (λ w. IsNormalUnder solution.bindings (system_of node) (substitute solution.bindings w)) (label_trees node) u.0 respects.labels u.1
      (substitute solution.bindings q.0) (mapped (substitute solution.bindings) (compositions node.know) q.0 q.1) in_bindings

  -- disequations
  module _ (d : Disequation) (there : Contains node.disequations d) (m : IsMatchedUnder identity (disequation_under put d)) where
    again : ℕ → Tree
    again v = if is_among v d.free then substitute back (m.0 v) else leaf (var v)

    again_free : (v : ℕ) → Contains d.free v → again v ≡ substitute back (m.0 v)
    unfolding again
    again_free v h = ap (λ b. cond b (substitute back (m.0 v)) (leaf (var v))) (among_true d.free v h)

    again_keeps : Keeps d.free again
    unfolding again
    again_keeps v h = elim (cases_Bool (is_among v d.free)) [
      | inl e ↦ absurd (h (Contains-from_any (λ (i j : ℕ). eqb-true i j) v d.free e))
      | inr e ↦ ap (λ b. cond b (substitute back (m.0 v)) (leaf (var v))) e
    ]

    is_free : (v : ℕ) → Contains d.free v → (v ≤ length node.levels) × (level_of (variables_of node) v ≡ None)
    is_free v h = All-contains (λ y. (y ≤ length node.levels) × (level_of (variables_of node) y ≡ None)) d.free v (disequation_at problem node sound d there).free h

    -- what stands in bindings is not free
    not_free : (x l v : ℕ) → level_of (variables_of node) x ≡ Some l → StandsIn (var v) (solution.bindings x) → ¬ Contains d.free v
    not_free x l v e h k = elim (in_binding node c ask solution found x l v e h) [
      | inl old ↦ let q : None ≡ Some old.k = sym (is_free v k).1 ∙ old.level in cc
      | inr new ↦ let below = new.above v (in_system node c ask solution found d v there k) in omega (arith, below)
    ]

    renumbered_not_free : (x l v : ℕ) → level_of (variables_of node) x ≡ Some l → StandsIn (var v) (solution.bindings x) → substitute m.0 (ren v) ≡ ren v
    renumbered_not_free x l v e h = elim (counted_cases (first node c ask solution found) (news node c ask solution found) v) [
      | inl i ↦
          ap (substitute m.0) i.2
          ∙ m.1 (first node c ask solution found + i.0) (λ k. let up = (is_free (first node c ask solution found + i.0) k).0 in omega (arith, up)) ∙ sym i.2
      | inr i ↦ ap (substitute m.0) i.1 ∙ m.1 v (not_free x l v e h) ∙ sym i.1
    ]

    variable_again : (n : ℕ) → IsPatternLeafOf node d.free (var n) → substitute again (solution.bindings n) ≡ substitute back (substitute m.0 (put n))
    variable_again n (inl k) =
        substitute_agrees again (λ v. leaf (var v)) (solution.bindings n) (λ v h. again_keeps v (not_free n k.0 v k.1 h)) ∙ substitute_itself (solution.bindings n)
        ∙ sym (ap (substitute back)
        (substitute_in_turn m.0 ren (solution.bindings n) ∙ substitute_agrees (λ v. substitute m.0 (ren v)) ren (solution.bindings n) (λ v h. renumbered_not_free n k.0 v k.1 h))
        ∙ tree_back (leaf (var n)) (λ x h. (k.0, subst (λ y. level_of (variables_of node) y ≡ Some k.0) (sym (same_number x h)) k.1)))
      where
        same_number : (x : ℕ) → StandsIn (var x) (leaf (var n)) → x ≡ n
        same_number x h = let e : var x ≡ var n = alone (var x) (var n) h in cc
    variable_again n (inr k) =
        let same : k.0 ≡ n = cc in
        let free : Contains d.free n = subst (λ y. Contains d.free y) same k.2 in
        let none = (is_free n free).1 in
        ap (substitute again) (not_of_node node c ask solution found n none) ∙ again_free n free
        ∙ ap (λ (t : Tree). substitute back (substitute m.0 t)) (sym (free_stays node c ask solution found d n there free none))

    each : (q : Tree × Tree) → Contains (map {B = Tree × Tree} (λ (p : Tree × Tree). (substitute solution.bindings p.0, substitute solution.bindings p.1)) d.pairs) q → substitute again q.1 ≡ q.0
    each q h =
        let p = from_mapped {B = Tree × Tree} (λ (p : Tree × Tree). (substitute solution.bindings p.0, substitute solution.bindings p.1)) d.pairs q h in
        let is = disequation_at problem node sound d there in
        let left = (All-contains (λ (w : Tree × Tree). IsNodeTree problem.signature node node.m w.0) d.pairs p.0 is.trees p.1).level in
        let right = (All-contains (λ (w : Tree × Tree). IsTreeOver problem.signature w.1 × HasNoOwnName w.1 × IsBuiltOf (IsPatternLeafOf node d.free) AnySymbol w.1) d.pairs p.0 is.patterns p.1).2 in
        let one = mapped {B = Tree × Tree} (λ (w : Tree × Tree). (substitute put w.0, substitute put w.1)) d.pairs p.0 p.1 in
        let matches =
        All-contains (λ (w : Tree × Tree). substitute m.0 w.1 ≡ w.0)
        (map {B = Tree × Tree} (λ (w : Tree × Tree). (substitute identity w.0, substitute identity w.1)) (disequation_under put d).pairs)
        (substitute identity (substitute put p.0.0), substitute identity (substitute put p.0.1)) m.2
        (mapped {B = Tree × Tree} (λ (w : Tree × Tree). (substitute identity w.0, substitute identity w.1)) (disequation_under put d).pairs (substitute put p.0.0, substitute put p.0.1) one) in
        let plain : substitute m.0 (substitute put p.0.1) ≡ substitute put p.0.0 =
        ap (substitute m.0) (sym (substitute_itself (substitute put p.0.1))) ∙ matches ∙ substitute_itself (substitute put p.0.0) in
        subst (λ (w : Tree × Tree). substitute again w.1 ≡ w.0) (sym p.2)
        (substitute_in_turn again solution.bindings p.0.1
        ∙ substitute_agrees (λ n. substitute again (solution.bindings n)) (λ n. substitute back (substitute m.0 (put n))) p.0.1
        (λ n s. variable_again n (leaf_meets (IsPatternLeafOf node d.free) AnySymbol right s))
        ∙ sym (substitute_in_turn back (λ n. substitute m.0 (put n)) p.0.1) ∙ ap (substitute back) (sym (substitute_in_turn m.0 put p.0.1) ∙ plain)
        ∙ tree_back p.0.0 (tree_known problem node sound c ask solution found kid applies node.m p.0.0 left))

    never : ⊥
    never =
        All-contains (λ q. ¬ IsMatchedUnder solution.bindings q) node.disequations d respects.disequations there
        (again, again_keeps, all_of (λ (q : Tree × Tree). substitute again q.1 ≡ q.0) (map {B = Tree × Tree} (λ (p : Tree × Tree). (substitute solution.bindings p.0, substitute solution.bindings p.1)) d.pairs) each)

  pub kid_is_consistent : Respects (system_of kid) identity
  kid_is_consistent = record {
    labels = all_of (λ t. IsNormalUnder identity (system_of kid) (substitute identity t)) (label_trees kid) label_normal;
    disequations = subst (λ (ds : List Disequation). All (λ d. ¬ IsMatchedUnder identity d) ds) (sym applies.disequations)
        (all_of (λ d. ¬ IsMatchedUnder identity d) (map (disequation_under put) node.disequations) (λ q h m.
        let o = from_mapped (disequation_under put) node.disequations q h in never o.0 o.1 (subst (λ (e : Disequation). IsMatchedUnder identity e) o.2 m)));
  }
