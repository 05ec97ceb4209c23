-- The messages and the parts of the first kid of a split.
use Rattle.std.proofs.Common.{◌≡◌, ℕ, zero, suc, ◌+◌, ◌<◌, ◌≤◌, ◌^◌, List, [], length, sym, ◌∙◌, ap, subst, inl, inr, arith, Option, Some, None}
use Rattle.std.specs.Prelude.{Contains, All, IsSome, is_some, slice_get, unwrap_or}
use Rattle.std.proofs.lemmas.List.Elements.{All-contains}
use Rattle.std.proofs.lemmas.Option.{slice_get-map, slice_get_within}
use Rattle.std.proofs.lemmas.List.{length-map}
use Rattle.dps_terms.specs.declared.PublicName.TheVariants.{Declared, At}
use Rattle.dps_terms.specs.Tree.{Leaf, public, private, var, ax, entry, rigid, Tree, leaf, StandsIn}
use Rattle.dps_terms.specs.Replace.{substitute, variables_to, entries_to, put_entries, numbered}
use Rattle.dps_terms.specs.Kinds.{AnySymbol, NoRigidName}
use Rattle.dps_signature.specs.Signature.{HasShape, HasArity, shapes}
use Rattle.dps_signature.specs.declared.SymKind.TheVariants.{Constructor}
use Rattle.dps_signature.specs.Kinds.{IsLeafOver, IsSourceLeaf, IsSourceTerm}
use Rattle.dps_terms.proofs.Building.{leaf_meets, built_subterm, built_of, built_instance}
use Rattle.dps_process.specs.Process.{Process, replace_in}
use Rattle.dps_process.specs.Problem.{Problem}
use Rattle.dps_unify.specs.Order.{level_of}
use Rattle.dps_know.specs.Know.{Knowledge, entry_at, entry_under}
use Rattle.dps_know.specs.declared.know.Entry.{Entry}
use Rattle.dps_solver.specs.Levels.{IsLeafUpTo}
use Rattle.dps_solver.specs.Scene.{value_at, Ask}
use Rattle.dps_solver.specs.Solutions.{valued}
use Rattle.dps_solver.specs.Search.{GeneralSolution}
use Rattle.dps_solver.proofs.Each.{contains_at}
use Rattle.dps_directions.specs.Shapes.{IsListedFor}
use Rattle.dps_directions.proofs.Beginning.{levels_cases, some_level}
use Rattle.dps_node.specs.Node.{SymbolicConfig, Node, variables_of, scene_of}
use Rattle.dps_node.specs.Splits.{binding, IsConfigUnder, Applies}
use Rattle.dps_node.specs.Invariant.{IsNoOwnName, IsMessageLeaf, IsNodeMessage, IsNodePart, IsSound}
use Rattle.dps_faithful.specs.Laws.{HasLowNumbers, BindsTrees}
use Rattle.dps_faithful.proofs.Lists.{at_place}
use Rattle.dps_faithful.proofs.Leaves.{alone}
use Rattle.dps_faithful.proofs.Bindings.{first, news, renumbered, not_of_node, counted_cases}
use Rattle.dps_faithful.proofs.Kid.{kid_level}
use Rattle.dps_faithful.proofs.Processes.{Closes, channels_kept, binders_kept, terms_kept, free_from}
use Rattle.dps_faithful.proofs.KidValues.{entry_low, value_back, value_known, have_older}
use Rattle.dps_faithful.proofs.Inheriting.{put_level, put_over}
use Rattle.dps_faithful.proofs.OtherKid.{put_own}

there_is : (o : Option ℕ) (l : ℕ) → o ≡ Some l → IsSome o
there_is o l e = ap is_some e

module _ (problem : Problem) (node : Node) (sound : IsSound problem node) (c : SymbolicConfig) (ask : Ask) (solution : GeneralSolution)
    (found : IsListedFor NoRigidName (scene_of node c) ask solution) (kid : Node) (applies : Applies node solution.bindings kid)
    (binds : BindsTrees problem.signature solution) (low : HasLowNumbers kid) (k l : SymbolicConfig) (listed : Contains node.configs k)
    (under : IsConfigUnder node (binding node solution.bindings) k l) where
  abbrev put : ℕ → Tree
  put = binding node solution.bindings

  abbrev IsMessage : Tree → Type 0
  IsMessage u = IsNodeMessage problem.signature kid u

  -- a value of a binding is a message, where those of older entries are
  message_value : (x j : ℕ) → level_of (variables_of node) x ≡ Some j
      → ((i : ℕ) (e : Entry) → entry_at node.know i ≡ Some e → e.level ≤ j → (v : Tree) → value_at (scene_of kid l) i ≡ Some v → IsMessage v) → IsMessage (valued l.values put x)
  message_value x j e older =
      built_instance (IsLeafOver problem.signature) (HasShape (shapes problem.signature) Constructor) (IsMessageLeaf problem.signature kid) (entries_to l.values) (put x)
      (put_over problem node sound c ask solution found kid applies binds low x) at
    where
      there : (i : ℕ) (d : Entry) → entry_at node.know i ≡ Some d → (v : Tree) × (value_at (scene_of kid l) i ≡ Some v) × (numbered l.values i (leaf (entry i)) ≡ v)
      there zero d h = cc
      there (suc i) d h =
          let long = (have_older problem node sound c ask solution found kid applies k l listed under).each_value in
          let same = ap (λ (q : Knowledge). length q.entries) applies.know in
          let within = slice_get_within node.know.entries i d h in
          let v = at_place l.values i (omega (arith, within, long, same, length-map node.know.entries (entry_under put))) in
          (v.0, v.1, ap (λ (o : Option Tree). unwrap_or o (leaf (entry (suc i)))) v.1)

      at : (z : Leaf) → StandsIn z (put x) → IsLeafOver problem.signature z → IsMessage (entries_to l.values z)
      at (public (Declared n)) s h = h
      at (public (At n)) s h = absurd (leaf_meets IsNoOwnName AnySymbol (put_own problem node sound c ask solution found binds kid applies low x) s)
      at (private n) s h = tt
      at (ax n) s h = absurd (leaf_meets (IsLeafUpTo NoRigidName node.m node.know (variables_of kid) j) AnySymbol (put_level problem node sound c ask solution found kid applies binds low x j e) s)
      at (rigid n) s h =
          absurd (leaf_meets (IsLeafUpTo NoRigidName node.m node.know (variables_of kid) j) AnySymbol (put_level problem node sound c ask solution found kid applies binds low x j e) s).0
      at (var n) s h = let d = kid_level problem node sound c ask solution found kid applies x j n e s in there_is (level_of (variables_of kid) n) d.0 d.1
      at (entry i) s h =
          let up = entry_low problem node sound c ask solution found kid applies x j i e s in
          let v = there i up.0 up.1 in
          subst IsMessage (sym v.2) (older i up.0 up.1 up.2 v.0 v.1)

  -- a message of the node becomes one of the kid
  message_from : (u : Tree) → IsNodeMessage problem.signature node u → ((x : ℕ) → StandsIn (var x) u → IsMessage (valued l.values put x)) → IsMessage (substitute (valued l.values put) u)
  message_from u h w =
      built_instance (IsMessageLeaf problem.signature node) (HasShape (shapes problem.signature) Constructor) (IsMessageLeaf problem.signature kid) (variables_to (valued l.values put)) u h at
    where
      at : (z : Leaf) → StandsIn z u → IsMessageLeaf problem.signature node z → IsMessage (variables_to (valued l.values put) z)
      at (public n) s i = i
      at (private n) s i = tt
      at (ax n) s i = absurd i
      at (entry n) s i = absurd i
      at (rigid n) s i = absurd i
      at (var n) s i = w n s

  values_below : (n i : ℕ) (e : Entry) → entry_at node.know i ≡ Some e → e.level < n → (v : Tree) → value_at (scene_of kid l) i ≡ Some v → IsMessage v
  values_below zero i e there small v at = absurd (omega (arith, small))
  values_below (suc n) zero e there small v at = cc
  values_below (suc n) (suc i) e there small v at =
      let u = value_back (valued l.values put) (slice_get k.values i) v
      (sym (slice_get-map (substitute (valued l.values put)) k.values i) ∙ sym (ap (λ (vs : List Tree). slice_get vs i) under.values) ∙ at) in
      let messages =
      (All-contains (λ (q : SymbolicConfig). All (IsNodeMessage problem.signature node) q.values × All (IsNodeMessage problem.signature node) q.frame) node.configs k sound.older.messages listed).0 in
      let is = All-contains (IsNodeMessage problem.signature node) k.values u.0 messages (contains_at k.values i u.0 u.1) in
      subst IsMessage (sym u.2) (message_from u.0 is (λ x s.
      let j = (sound.older.values k (suc i) e u.0 listed there u.1).1 x s in
      message_value x j.0 j.1 (λ i d there up v at. values_below n i d there (omega (arith, up, j.2, small)) v at)))

  pub value_is : (x j : ℕ) → level_of (variables_of node) x ≡ Some j → IsMessage (valued l.values put x)
  value_is x j e = message_value x j e (λ i d there up v at. values_below (suc d.level) i d there (omega arith) v at)

  pub entry_value_is : (i : ℕ) (e : Entry) → entry_at node.know i ≡ Some e → (v : Tree) → value_at (scene_of kid l) i ≡ Some v → IsMessage v
  entry_value_is i e there v at = values_below (suc e.level) i e there (omega arith) v at

  pub message_put : (u : Tree) → IsNodeMessage problem.signature node u → IsMessage (substitute (valued l.values put) u)
  message_put u h = message_from u h (λ x s.
      let j = some_level (level_of (variables_of node) x) (leaf_meets (IsMessageLeaf problem.signature node) (HasShape (shapes problem.signature) Constructor) h s) in value_is x j.0 j.1)

  -- parts
  source_leaf : (z : Leaf) → IsMessageLeaf problem.signature kid z → IsSourceLeaf problem.signature z
  source_leaf (public n) h = h
  source_leaf (private n) h = tt
  source_leaf (ax n) h = h
  source_leaf (entry n) h = h
  source_leaf (rigid n) h = h
  source_leaf (var n) h = tt

  source_of : (u : Tree) → IsMessage u → IsSourceTerm problem.signature u
  source_of u h = built_of (IsSourceLeaf problem.signature) (HasArity (shapes problem.signature)) u
      (λ z s. source_leaf z (leaf_meets (IsMessageLeaf problem.signature kid) (HasShape (shapes problem.signature) Constructor) h s))
      (λ f ts s. (Constructor, (built_subterm (IsMessageLeaf problem.signature kid) (HasShape (shapes problem.signature) Constructor) h s).0))

  -- what a variable that is not the node's becomes is a variable
  record IsLeft (n : ℕ) : Type 0 where
    pub m : ℕ
    pub is : valued l.values put n ≡ leaf (var m)

  left : (n : ℕ) → level_of (variables_of node) n ≡ None → IsLeft n
  left n e = elim (counted_cases (first node c ask solution found) (news node c ask solution found) n) [
    | inl d ↦ record {
      m = first node c ask solution found + d.0;
      is = ap (put_entries l.values) (ap (substitute (renumbered node c ask solution found)) (not_of_node node c ask solution found n e) ∙ d.2);
    }
    | inr d ↦ record {
      m = n;
      is = ap (put_entries l.values) (ap (substitute (renumbered node c ask solution found)) (not_of_node node c ask solution found n e) ∙ d.1);
    }
  ]

  source_value : (n : ℕ) → IsSourceTerm problem.signature (valued l.values put n)
  source_value n = elim (levels_cases (level_of (variables_of node) n)) [
    | inl e ↦ let d = left n e in subst (IsSourceTerm problem.signature) (sym d.is) tt
    | inr e ↦ source_of (valued l.values put n) (value_is n e.0 e.1)
  ]

  keeps_source : (z : Leaf) → IsSourceLeaf problem.signature z → IsSourceTerm problem.signature (variables_to (valued l.values put) z)
  keeps_source (public n) h = h
  keeps_source (private n) h = tt
  keeps_source (ax n) h = h
  keeps_source (entry n) h = h
  keeps_source (rigid n) h = h
  keeps_source (var n) h = source_value n

  closes : Closes (variables_to (valued l.values put))
  closes (public n) h x s = let q : var x ≡ public n = alone (var x) (public n) s in cc
  closes (private n) h x s = let q : var x ≡ private n = alone (var x) (private n) s in cc
  closes (ax n) h x s = let q : var x ≡ ax n = alone (var x) (ax n) s in cc
  closes (entry n) h x s = let q : var x ≡ entry n = alone (var x) (entry n) s in cc
  closes (rigid n) h x s = let q : var x ≡ rigid n = alone (var x) (rigid n) s in cc
  closes (var n) h x s = absurd h

  pub part_put : (p : Process) → IsNodePart problem.signature node p → IsNodePart problem.signature kid (replace_in (variables_to (valued l.values put)) p)
  part_put p h = record {
    terms = terms_kept (IsSourceLeaf problem.signature) (HasArity (shapes problem.signature)) (λ n. tt) (variables_to (valued l.values put)) p keeps_source h.terms;
    channels = channels_kept (λ n. n < length problem.signature.names) (variables_to (valued l.values put)) p h.channels;
    binders = binders_kept (λ x. 2 ^ 63 ≤ x) (variables_to (valued l.values put)) p h.binders;
    free = λ x f.
        let d = free_from (variables_to (valued l.values put)) p x closes f in
        let j = some_level (level_of (variables_of node) d.y) (h.free d.y d.free) in
        let is = value_known problem node sound c ask solution found kid applies k l listed under d.y j.0 j.1 x d.stands in
        there_is (level_of (variables_of kid) x) is.0 is.1;
  }
