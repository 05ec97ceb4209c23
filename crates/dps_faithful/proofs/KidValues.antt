-- The values of entries in the first kid of a split.
use Rattle.std.proofs.Common.{◌≡◌, ℕ, zero, suc, ◌+◌, ◌<◌, ◌≤◌, List, [], length, refl, sym, ◌∙◌, ap, subst, inl, inr, arith, Option, Some, None}
use Rattle.std.specs.Prelude.{Contains, slice_get, unwrap_or}
use Rattle.std.specs.Option.{option_map}
use Rattle.std.proofs.lemmas.List.{length-map}
use Rattle.std.proofs.lemmas.List.Elements.{All-contains}
use Rattle.std.proofs.lemmas.Option.{slice_get-map}
use Rattle.dps_terms.specs.Tree.{Leaf, public, private, var, ax, entry, rigid, Tree, leaf, StandsIn}
use Rattle.dps_terms.specs.Replace.{substitute, variables_to, entries_to, numbered}
use Rattle.dps_terms.specs.Kinds.{AnySymbol, NoRigidName}
use Rattle.dps_terms.proofs.Building.{leaf_meets}
use Rattle.dps_process.specs.Problem.{Problem}
use Rattle.dps_unify.specs.Order.{level_of}
use Rattle.dps_unify.proofs.Trees.{variable_of_instance}
use Rattle.dps_know.specs.Know.{Knowledge, entry_at, entry_under, know_under}
use Rattle.dps_know.specs.declared.know.Entry.{Entry}
use Rattle.dps_solver.specs.Levels.{IsEntryUpTo}
use Rattle.dps_solver.specs.Scene.{value_at, Ask}
use Rattle.dps_solver.specs.Solutions.{valued}
use Rattle.dps_solver.specs.Search.{GeneralSolution}
use Rattle.dps_directions.specs.Shapes.{IsListedFor}
use Rattle.dps_directions.specs.Values.{HaveOlderValues}
use Rattle.dps_directions.proofs.Invariant.{IsBuiltLeaf}
use Rattle.dps_directions.proofs.Outcomes.{binding_at}
use Rattle.dps_directions.proofs.Directed.{outcome_of}
use Rattle.dps_node.specs.Node.{SymbolicConfig, Node, variables_of, scene_of}
use Rattle.dps_node.specs.Splits.{binding, IsConfigUnder, Applies}
use Rattle.dps_node.specs.Invariant.{IsSound}
use Rattle.dps_faithful.proofs.Bindings.{news, first, renumbered, counted_cases}
use Rattle.dps_faithful.proofs.Leaves.{leaf_of_instance, alone}
use Rattle.dps_faithful.proofs.Kid.{kid_level}

-- the entry that became this one
entry_back : (z : ℕ → Tree) (o : Option Entry) (e : Entry) → option_map (entry_under z) o ≡ Some e → (d : Entry) × (o ≡ Some d) × (e ≡ entry_under z d)
entry_back z None e h = cc
entry_back z (Some d) e h = (d, refl, (let q : e ≡ entry_under z d = cc in q))

pub entry_at_back : (z : ℕ → Tree) (know : Knowledge) (i : ℕ) (e : Entry) → entry_at (know_under z know) i ≡ Some e → (d : Entry) × (entry_at know i ≡ Some d) × (e ≡ entry_under z d)
entry_at_back z know zero e h = cc
entry_at_back z know (suc k) e h = entry_back z (slice_get know.entries k) e (sym (slice_get-map (entry_under z) know.entries k) ∙ h)

pub value_back : (z : ℕ → Tree) (o : Option Tree) (v : Tree) → option_map (substitute z) o ≡ Some v → (u : Tree) × (o ≡ Some u) × (v ≡ substitute z u)
value_back z None v h = cc
value_back z (Some u) v h = (u, refl, (let q : v ≡ substitute z u = cc in q))

module _ (problem : Problem) (node : Node) (sound : IsSound problem node) (c : SymbolicConfig) (ask : Ask) (solution : GeneralSolution)
    (found : IsListedFor NoRigidName (scene_of node c) ask solution) (kid : Node) (applies : Applies node solution.bindings kid) where
  abbrev put : ℕ → Tree
  put = binding node solution.bindings

  -- the entries in a binding have at most the level of what is bound
  pub entry_low : (x l i : ℕ) → level_of (variables_of node) x ≡ Some l → StandsIn (entry i) (put x) → IsEntryUpTo node.know l i
  entry_low x l i e h =
      let o = outcome_of NoRigidName (scene_of node c) ask solution found in
      let z = leaf_of_instance (variables_to (renumbered node c ask solution found)) (entry i) (solution.bindings x) h in
      let same : z.0 ≡ entry i = at z.0 z.2 in
      leaf_meets (IsBuiltLeaf (scene_of node c) o.last l) AnySymbol (o.kept.bindings x l e).leaves
      (subst (λ t. StandsIn (entry i) t) (binding_at (scene_of node c) ask solution o x l e) (subst (λ q. StandsIn q (solution.bindings x)) same z.1))
    where
      at : (z : Leaf) → StandsIn (entry i) (variables_to (renumbered node c ask solution found) z) → z ≡ entry i
      at (public n) k = sym (alone (entry i) (public n) k)
      at (private n) k = sym (alone (entry i) (private n) k)
      at (ax n) k = sym (alone (entry i) (ax n) k)
      at (entry n) k = sym (alone (entry i) (entry n) k)
      at (rigid n) k = sym (alone (entry i) (rigid n) k)
      at (var n) k = elim (counted_cases (first node c ask solution found) (news node c ask solution found) n) [
        | inl d ↦ let q : entry i ≡ var (first node c ask solution found + d.0) = alone (entry i) (var (first node c ask solution found + d.0)) (subst (λ t. StandsIn (entry i) t) d.2 k) in cc
        | inr d ↦ let q : entry i ≡ var n = alone (entry i) (var n) (subst (λ t. StandsIn (entry i) t) d.1 k) in cc
      ]

  module _ (k l : SymbolicConfig) (listed : Contains node.configs k) (under : IsConfigUnder node put k l) where
    abbrev IsBelow : ℕ → ℕ → Type 0
    IsBelow y n = (j : ℕ) × (level_of (variables_of kid) y ≡ Some j) × (j < n)

    at_entry : (i : ℕ) (o : Option Tree) (y n : ℕ) → ((v : Tree) → o ≡ Some v → StandsIn (var y) v → IsBelow y n) → StandsIn (var y) (unwrap_or o (leaf (entry i))) → IsBelow y n
    at_entry i None y n h s = let q : var y ≡ entry i = alone (var y) (entry i) s in cc
    at_entry i (Some v) y n h s = h v refl s

    numbered_at : (i y n : ℕ) → ((v : Tree) → value_at (scene_of kid l) i ≡ Some v → StandsIn (var y) v → IsBelow y n) → StandsIn (var y) (numbered l.values i (leaf (entry i))) → IsBelow y n
    numbered_at zero y n h s = let q : var y ≡ entry zero = alone (var y) (entry zero) s in cc
    numbered_at (suc i) y n h s = at_entry (suc i) (slice_get l.values i) y n h s

    -- the variables of a value of a tree of a level, by levels
    in_value : (x j : ℕ) → level_of (variables_of node) x ≡ Some j
        → ((i : ℕ) (e : Entry) → entry_at node.know i ≡ Some e → e.level ≤ j → (v : Tree) → value_at (scene_of kid l) i ≡ Some v → (y : ℕ) → StandsIn (var y) v → IsBelow y e.level)
        → (y : ℕ) → StandsIn (var y) (valued l.values put x) → IsBelow y (suc j)
    in_value x j e older y h =
        let z = leaf_of_instance (entries_to l.values) (var y) (put x) h in at z.0 z.1 z.2
      where
        at : (z : Leaf) → StandsIn z (put x) → StandsIn (var y) (entries_to l.values z) → IsBelow y (suc j)
        at (public n) s k = let q : var y ≡ public n = alone (var y) (public n) k in cc
        at (private n) s k = let q : var y ≡ private n = alone (var y) (private n) k in cc
        at (ax n) s k = let q : var y ≡ ax n = alone (var y) (ax n) k in cc
        at (rigid n) s k = let q : var y ≡ rigid n = alone (var y) (rigid n) k in cc
        at (var n) s k =
            let q : var y ≡ var n = alone (var y) (var n) k in
            let v = kid_level problem node sound c ask solution found kid applies x j y e (subst (λ (w : Leaf). StandsIn w (put x)) (sym q) s) in
            (v.0, v.1, omega (arith, v.2))
        at (entry i) s k =
            let up = entry_low x j i e s in
            numbered_at i y (suc j) (λ v is there. let d = older i up.0 up.1 up.2 v is y there in (d.0, d.1, omega (arith, d.2, up.2))) k

    older_below : (n i : ℕ) (e : Entry) → entry_at node.know i ≡ Some e → e.level < n → (v : Tree) → value_at (scene_of kid l) i ≡ Some v → (y : ℕ) → StandsIn (var y) v → IsBelow y e.level
    older_below zero i e there low v at y h = absurd (omega (arith, low))
    older_below (suc n) zero e there low v at y h = cc
    older_below (suc n) (suc i) e there low v at y h =
        let u = value_back (valued l.values put) (slice_get k.values i) v
        (sym (slice_get-map (substitute (valued l.values put)) k.values i) ∙ sym (ap (λ (vs : List Tree). slice_get vs i) under.values) ∙ at) in
        let x = variable_of_instance (valued l.values put) y u.0 (subst (λ t. StandsIn (var y) t) u.2 h) in
        let j = (sound.older.values k (suc i) e u.0 listed there u.1).1 x.0 x.1 in
        let d = in_value x.0 j.0 j.1 (λ i d there le v at y h. older_below n i d there (omega (arith, le, j.2, low)) v at y h) y x.2 in
        (d.0, d.1, omega (arith, d.2, j.2))

    pub older_in_kid : (i : ℕ) (e : Entry) → entry_at node.know i ≡ Some e → (v : Tree) → value_at (scene_of kid l) i ≡ Some v → (y : ℕ) → StandsIn (var y) v → IsBelow y e.level
    older_in_kid i e there v at y h = older_below (suc e.level) i e there (omega arith) v at y h

    -- the values that bindings leave hold the kid's variables
    pub value_known : (x j : ℕ) → level_of (variables_of node) x ≡ Some j → (y : ℕ) → StandsIn (var y) (valued l.values put x) → IsBelow y (suc j)
    value_known x j e y h = in_value x j e (λ i d there le v at y h. older_in_kid i d there v at y h) y h

    pub have_older : HaveOlderValues (scene_of kid l)
    have_older = record {
      older = λ i e v there at y h.
          let d = entry_at_back put node.know i e (ap (λ (q : Knowledge). entry_at q i) (sym applies.know) ∙ there) in
          let is = older_in_kid i d.0 d.1 v at y h in
          let same : d.0.level ≡ e.level = ap (λ (q : Entry). q.level) (sym d.2) in
          (is.0, is.1, omega (arith, is.2, same));
      each_value =
          ap length under.values ∙ length-map k.values (substitute (valued l.values put))
          ∙ All-contains (λ (q : SymbolicConfig). length q.values ≡ length node.know.entries) node.configs k sound.older.each_value listed
          ∙ sym (ap (λ (q : Knowledge). length q.entries) applies.know ∙ length-map node.know.entries (entry_under put));
    }
