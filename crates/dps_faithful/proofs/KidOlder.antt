-- Each thing of the first kid of a split holds only what is the kid's.
use Rattle.std.proofs.Common.{◌≡◌, ℕ, zero, suc, ◌+◌, ◌-◌, ◌<◌, ◌≤◌, List, [], map, length, refl, sym, ◌∙◌, ap, subst, inl, inr, arith, Some, None}
use Rattle.std.specs.Prelude.{Contains, All, slice_get, if◌then◌else◌}
use Rattle.std.proofs.lemmas.Bool.{cases_lt}
use Rattle.std.proofs.lemmas.List.{length-append, length-map}
use Rattle.std.proofs.lemmas.List.Elements.{All-contains, All-weaker, All-map}
use Rattle.std.proofs.lemmas.Option.{slice_get-map}
use Rattle.dps_terms.specs.declared.PublicName.TheVariants.{Declared, At}
use Rattle.dps_terms.specs.Tree.{Leaf, public, private, var, ax, entry, rigid, Tree, leaf, app, StandsIn}
use Rattle.dps_terms.specs.Replace.{substitute, variables_to}
use Rattle.dps_terms.specs.Kinds.{IsBuiltOf, AnySymbol, NoRigidName}
use Rattle.dps_signature.specs.Signature.{HasShape, HasArity, shapes}
use Rattle.dps_signature.specs.declared.SymKind.TheVariants.{Constructor}
use Rattle.dps_signature.specs.Kinds.{IsLeafOver}
use Rattle.dps_terms.proofs.Building.{leaf_meets, built_subterm, built_of, built_weaker, built_instance}
use Rattle.dps_process.specs.Process.{Process, replace_in}
use Rattle.dps_process.specs.Problem.{Problem}
use Rattle.dps_unify.specs.Order.{level_of}
use Rattle.dps_know.specs.Know.{Knowledge, entry_at, compositions}
use Rattle.dps_know.specs.declared.know.Entry.{Entry}
use Rattle.dps_know.proofs.Listing.{all_of}
use Rattle.dps_solver.specs.Levels.{IsLeafUpTo}
use Rattle.dps_solver.specs.Scene.{Disequation, value_at, Ask}
use Rattle.dps_solver.specs.Solutions.{valued}
use Rattle.dps_solver.specs.Search.{GeneralSolution}
use Rattle.dps_symeval.proofs.Listed.{from_mapped}
use Rattle.dps_directions.specs.Shapes.{IsListedFor}
use Rattle.dps_directions.specs.Valid.{IsComposed}
use Rattle.dps_node.specs.Node.{SymbolicConfig, Node, variables_of, scene_of}
use Rattle.dps_node.specs.Splits.{new_levels, binding, disequation_under, IsConfigUnder, Applies}
use Rattle.dps_node.specs.Meaning.{IsTreeOver}
use Rattle.dps_node.specs.Invariant.{IsNoOwnName, HasNoOwnName, IsNodeTree, IsNodeMessage, IsNodePart, IsEntryRecipeLeaf, IsEntryValue, IsPatternLeafOf, IsNodeDisequation, HasOlderParts, IsSound}
use Rattle.dps_faithful.specs.Laws.{HasLowNumbers, BindsTrees}
use Rattle.dps_faithful.proofs.Validity.{disequation_at}
use Rattle.dps_faithful.proofs.Bindings.{free_stays}
use Rattle.dps_faithful.proofs.Kid.{kid_level, kid_none}
use Rattle.dps_faithful.proofs.Solved.{compositions_under}
use Rattle.dps_faithful.proofs.KidValues.{entry_low, value_back, older_in_kid, have_older}
use Rattle.dps_faithful.proofs.Instances.{zip_left}
use Rattle.dps_faithful.proofs.Inheriting.{put_level, put_over}
use Rattle.dps_faithful.proofs.OtherKid.{put_own}
use Rattle.dps_faithful.proofs.KidTrees.{leaf_in_kid, over_put, own_put, tree_put, entry_was}
use Rattle.dps_faithful.proofs.KidParts.{message_put, part_put}

still_value : (z : ℕ → Tree) (u : Tree) → IsEntryValue u → IsEntryValue (substitute z u)
still_value z (leaf (private n)) h = tt
still_value z (leaf (public n)) h = absurd h
still_value z (leaf (var n)) h = absurd h
still_value z (leaf (ax n)) h = absurd h
still_value z (leaf (entry n)) h = absurd h
still_value z (leaf (rigid n)) h = absurd h
still_value z (app f ts) h = tt

still_composed : (z : ℕ → Tree) (u : Tree) → IsComposed u → IsComposed (substitute z u)
still_composed z (leaf x) h = absurd h
still_composed z (app f ts) h = tt

module _ (problem : Problem) (node : Node) (sound : IsSound problem node) (c : SymbolicConfig) (ask : Ask) (solution : GeneralSolution)
    (found : IsListedFor NoRigidName (scene_of node c) ask solution) (kid : Node) (applies : Applies node solution.bindings kid)
    (binds : BindsTrees problem.signature solution) (low : HasLowNumbers kid) where
  abbrev put : ℕ → Tree
  put = binding node solution.bindings

  abbrev IsRecipeOf : ℕ → ℕ → Tree → Type 0
  IsRecipeOf i n u = IsBuiltOf (IsEntryRecipeLeaf problem.signature kid i n) (HasArity (shapes problem.signature)) u

  -- a binding of a variable of a smaller level holds older entries alone
  recipe_put : (i : ℕ) (e : Entry) → entry_at node.know i ≡ Some e → (x j : ℕ) → level_of (variables_of node) x ≡ Some j → j < e.level → IsRecipeOf i e.level (put x)
  recipe_put i e there x j at small =
      built_of (IsEntryRecipeLeaf problem.signature kid i e.level) (HasArity (shapes problem.signature)) (put x) leaf_is
      (λ f ts s. (Constructor, (built_subterm (IsLeafOver problem.signature) (HasShape (shapes problem.signature) Constructor) over s).0))
    where
      over : IsTreeOver problem.signature (put x)
      over = put_over problem node sound c ask solution found kid applies binds low x

      older : (n : ℕ) (d : Entry) → entry_at node.know n ≡ Some d → d.level ≤ j → (1 ≤ n) × (n < i)
      older zero d h up = cc
      older (suc n) d h up = elim (cases_lt (suc n) i) [
        | inl less ↦ (omega arith, less)
        | inr more ↦ absurd (let rises = sound.levels.rising i (suc n) e d there h more in omega (arith, rises, up, small))
      ]

      leaf_is : (z : Leaf) → StandsIn z (put x) → IsEntryRecipeLeaf problem.signature kid i e.level z
      leaf_is (public (Declared n)) s = inl (leaf_meets (IsLeafOver problem.signature) (HasShape (shapes problem.signature) Constructor) over s)
      leaf_is (public (At n)) s = absurd (leaf_meets IsNoOwnName AnySymbol (put_own problem node sound c ask solution found binds kid applies low x) s)
      leaf_is (private n) s = leaf_meets (IsLeafUpTo NoRigidName node.m node.know (variables_of kid) j) AnySymbol (put_level problem node sound c ask solution found kid applies binds low x j at) s
      leaf_is (ax n) s = absurd (leaf_meets (IsLeafUpTo NoRigidName node.m node.know (variables_of kid) j) AnySymbol (put_level problem node sound c ask solution found kid applies binds low x j at) s)
      leaf_is (rigid n) s =
          absurd (leaf_meets (IsLeafUpTo NoRigidName node.m node.know (variables_of kid) j) AnySymbol (put_level problem node sound c ask solution found kid applies binds low x j at) s).0
      leaf_is (var n) s = let d = kid_level problem node sound c ask solution found kid applies x j n at s in (d.0, d.1, omega (arith, d.2, small))
      leaf_is (entry n) s = let up = entry_low problem node sound c ask solution found kid applies x j n at s in older n up.0 up.1 up.2

  recipe_leaf : (i : ℕ) (e : Entry) → entry_at node.know i ≡ Some e → (z : Leaf) → IsEntryRecipeLeaf problem.signature node i e.level z → IsRecipeOf i e.level (variables_to put z)
  recipe_leaf i e there (public n) h = h
  recipe_leaf i e there (private n) h = h
  recipe_leaf i e there (ax n) h = h
  recipe_leaf i e there (entry n) h = h
  recipe_leaf i e there (rigid n) h = h
  recipe_leaf i e there (var n) h = recipe_put i e there n h.0 h.1 h.2

  recipes : (i : ℕ) (e : Entry) → entry_at kid.know i ≡ Some e → IsRecipeOf i e.level e.recipe
  recipes i e h =
      let d = entry_was problem node sound c ask solution found kid applies binds low i e h in
      subst (λ (x : Entry). IsRecipeOf i x.level x.recipe) (sym d.2)
      (built_instance (IsEntryRecipeLeaf problem.signature node i d.0.level) (HasArity (shapes problem.signature)) (IsEntryRecipeLeaf problem.signature kid i d.0.level) (variables_to put) d.0.recipe
      (sound.older.recipes i d.0 d.1) (λ z s k. recipe_leaf i d.0 d.1 z k))

  was : (k : SymbolicConfig) → Contains kid.configs k → (q : SymbolicConfig) × Contains node.configs q × IsConfigUnder node put q k
  was k h = zip_left (IsConfigUnder node put) node.configs kid.configs k applies.configs h

  values : (k : SymbolicConfig) (i : ℕ) (e : Entry) (v : Tree) → Contains kid.configs k → entry_at kid.know i ≡ Some e → value_at (scene_of kid k) i ≡ Some v
      → IsEntryValue v × ((x : ℕ) → StandsIn (var x) v → (j : ℕ) × (level_of (variables_of kid) x ≡ Some j) × (j < e.level))
  values k zero e v there h at = cc
  values k (suc i) e v there h at =
      let q = was k there in
      let d = entry_was problem node sound c ask solution found kid applies binds low (suc i) e h in
      let level : e.level ≡ d.0.level = ap (λ (x : Entry). x.level) d.2 in
      let u = value_back (valued k.values put) (slice_get q.0.values i) v
      (sym (slice_get-map (substitute (valued k.values put)) q.0.values i) ∙ sym (ap (λ (vs : List Tree). slice_get vs i) q.2.values) ∙ at) in
      let is = sound.older.values q.0 (suc i) d.0 u.0 q.1 d.1 u.1 in (
        subst IsEntryValue (sym u.2) (still_value (valued k.values put) u.0 is.0),
        λ x s.
            let j = older_in_kid problem node sound c ask solution found kid applies q.0 k q.1 q.2 (suc i) d.0 d.1 v at x s in
            (j.0, j.1, omega (arith, j.2, level)),
      )

  each_of : (P : SymbolicConfig → Type 0) → ((q k : SymbolicConfig) → Contains node.configs q → IsConfigUnder node put q k → P k) → All P kid.configs
  each_of P f = all_of P kid.configs (λ k h. let q = was k h in f q.0 k q.1 q.2)

  all_mapped : (P Q : Tree → Type 0) (f : Tree → Tree) (ts us : List Tree) → us ≡ map f ts → All P ts → ((t : Tree) → P t → Q (f t)) → All Q us
  all_mapped P Q f ts us e h w = subst (λ (vs : List Tree). All Q vs) (sym e) (All-map Q f ts (All-weaker P (λ t. Q (f t)) w ts h))

  messages : (q k : SymbolicConfig) → Contains node.configs q → IsConfigUnder node put q k → All (IsNodeMessage problem.signature kid) k.values × All (IsNodeMessage problem.signature kid) k.frame
  messages q k there under =
      let h =
      All-contains
      (λ (r : SymbolicConfig). All (IsNodeMessage problem.signature node) r.values × All (IsNodeMessage problem.signature node) r.frame)
      node.configs q sound.older.messages there in
      let w = message_put problem node sound c ask solution found kid applies binds low q k there under in (
        all_mapped (IsNodeMessage problem.signature node) (IsNodeMessage problem.signature kid) (substitute (valued k.values put)) q.values k.values under.values h.0 w,
        all_mapped (IsNodeMessage problem.signature node) (IsNodeMessage problem.signature kid) (substitute (valued k.values put)) q.frame k.frame under.frame h.1 w,
      )

  parts : (q k : SymbolicConfig) → Contains node.configs q → IsConfigUnder node put q k → All (IsNodePart problem.signature kid) k.parts
  parts q k there under =
      let h = All-contains (λ (r : SymbolicConfig). All (IsNodePart problem.signature node) r.parts) node.configs q sound.older.parts there in
      subst (λ (ps : List Process). All (IsNodePart problem.signature kid) ps) (sym under.parts)
      (All-map (IsNodePart problem.signature kid) (replace_in (variables_to (valued k.values put))) q.parts
      (All-weaker (IsNodePart problem.signature node) (λ p. IsNodePart problem.signature kid (replace_in (variables_to (valued k.values put)) p))
      (part_put problem node sound c ask solution found kid applies binds low q k there under) q.parts h))

  abbrev IsTreeOfKid : Tree → Type 0
  IsTreeOfKid t = IsNodeTree problem.signature kid kid.m t

  tree_of_m : (u : Tree) → IsNodeTree problem.signature node node.m u → IsTreeOfKid (substitute put u)
  tree_of_m u h = subst (λ m. IsNodeTree problem.signature kid m (substitute put u)) (sym applies.m) (tree_put problem node sound c ask solution found kid applies binds low node.m u h)

  recorded : All (λ t. IsComposed t × IsTreeOfKid t) (compositions kid.know)
  recorded =
      all_mapped (λ t. IsComposed t × IsNodeTree problem.signature node node.m t) (λ t. IsComposed t × IsTreeOfKid t) (substitute put) (compositions node.know) (compositions kid.know)
      (ap compositions applies.know ∙ compositions_under put node.know.entries) sound.older.recorded (λ t h. (still_composed put t h.0, tree_of_m t h.1))

  handles : All IsTreeOfKid kid.know.handles
  handles =
      all_mapped (IsNodeTree problem.signature node node.m) IsTreeOfKid (substitute put) node.know.handles kid.know.handles
      (ap (λ (q : Knowledge). q.handles) applies.know) sound.older.handles tree_of_m

  longer : length node.levels ≤ length kid.levels
  longer = omega (arith, ap length applies.levels, length-append node.levels (new_levels node solution.bindings))

  -- disequations
  pattern_leaf : (d : Disequation) → Contains node.disequations d → (z : Leaf) → IsPatternLeafOf node d.free z → IsBuiltOf (IsPatternLeafOf kid d.free) AnySymbol (variables_to put z)
  pattern_leaf d h z (inl k) =
      built_weaker (IsLeafUpTo NoRigidName kid.m kid.know (variables_of kid) node.m) AnySymbol (IsPatternLeafOf kid d.free) (variables_to put z)
      (leaf_in_kid problem node sound c ask solution found kid applies binds low node.m z k) up
    where
      up : (y : Leaf) → IsLeafUpTo NoRigidName kid.m kid.know (variables_of kid) node.m y → IsPatternLeafOf kid d.free y
      up y i = inl (subst (λ m. IsLeafUpTo NoRigidName kid.m kid.know (variables_of kid) m y) (sym applies.m) i)
  pattern_leaf d h z (inr k) =
      let is = All-contains (λ y. (y ≤ length node.levels) × (level_of (variables_of node) y ≡ None)) d.free k.0 (disequation_at problem node sound d h).free k.2 in
      let one : IsBuiltOf (IsPatternLeafOf kid d.free) AnySymbol (leaf (var k.0)) = inr (k.0, refl, k.2) in
      subst (λ (y : Leaf). IsBuiltOf (IsPatternLeafOf kid d.free) AnySymbol (variables_to put y)) (sym k.1)
      (subst (IsBuiltOf (IsPatternLeafOf kid d.free) AnySymbol) (sym (free_stays node c ask solution found d k.0 h k.2 is.1)) one)

  disequation_put : (d : Disequation) → Contains node.disequations d → IsNodeDisequation problem.signature kid (disequation_under put d)
  disequation_put d h =
      let is = disequation_at problem node sound d h in
      record {
        trees = All-map (λ (p : Tree × Tree). IsTreeOfKid p.0) (λ (p : Tree × Tree). (substitute put p.0, substitute put p.1)) d.pairs
            (All-weaker (λ (p : Tree × Tree). IsNodeTree problem.signature node node.m p.0) (λ (p : Tree × Tree). IsTreeOfKid (substitute put p.0)) (λ p k. tree_of_m p.0 k) d.pairs is.trees);
        patterns = All-map (λ (p : Tree × Tree). IsTreeOver problem.signature p.1 × HasNoOwnName p.1 × IsBuiltOf (IsPatternLeafOf kid d.free) AnySymbol p.1)
            (λ (p : Tree × Tree). (substitute put p.0, substitute put p.1)) d.pairs
            (All-weaker (λ (p : Tree × Tree). IsTreeOver problem.signature p.1 × HasNoOwnName p.1 × IsBuiltOf (IsPatternLeafOf node d.free) AnySymbol p.1)
            (λ (p : Tree × Tree). IsTreeOver problem.signature (substitute put p.1) × HasNoOwnName (substitute put p.1) × IsBuiltOf (IsPatternLeafOf kid d.free) AnySymbol (substitute put p.1))
            (λ p k. (
              over_put problem node sound c ask solution found kid applies binds low p.1 k.0,
              own_put problem node sound c ask solution found kid applies binds low p.1 k.1,
              built_instance (IsPatternLeafOf node d.free) AnySymbol (IsPatternLeafOf kid d.free) (variables_to put) p.1 k.2 (λ z s i. pattern_leaf d h z i),
            )) d.pairs is.patterns);
        free = All-weaker (λ x. (x ≤ length node.levels) × (level_of (variables_of node) x ≡ None)) (λ x. (x ≤ length kid.levels) × (level_of (variables_of kid) x ≡ None))
            (λ x k. (omega (arith, k.0, longer), kid_none problem node sound c ask solution found kid applies x k.0 k.1)) d.free is.free;
      }

  disequations : All (IsNodeDisequation problem.signature kid) kid.disequations
  disequations =
      subst (λ (ds : List Disequation). All (IsNodeDisequation problem.signature kid) ds) (sym applies.disequations)
      (all_of (IsNodeDisequation problem.signature kid) (map (disequation_under put) node.disequations) (λ d h.
      let o = from_mapped (disequation_under put) node.disequations d h in
      subst (λ (q : Disequation). IsNodeDisequation problem.signature kid q) (sym o.2) (disequation_put o.0 o.1)))

  pub kid_has_older : HasOlderParts problem.signature kid
  kid_has_older = record {
    recipes = recipes;
    values = values;
    each_value =
        each_of (λ (k : SymbolicConfig). length k.values ≡ length kid.know.entries)
        (λ q k there under. (have_older problem node sound c ask solution found kid applies q k there under).each_value);
    each_message = each_of (λ (k : SymbolicConfig). length k.frame ≡ kid.m) (λ q k there under.
        ap length under.frame ∙ length-map q.frame (substitute (valued k.values put))
        ∙ All-contains (λ (r : SymbolicConfig). length r.frame ≡ node.m) node.configs q sound.older.each_message there ∙ sym applies.m);
    messages = each_of (λ (k : SymbolicConfig). All (IsNodeMessage problem.signature kid) k.values × All (IsNodeMessage problem.signature kid) k.frame) messages;
    parts = each_of (λ (k : SymbolicConfig). All (IsNodePart problem.signature kid) k.parts) parts;
    recorded = recorded;
    handles = handles;
    examined =
        (λ i. length (applies.know i).handles + (if applies.examine i then 1 else 0))
        ∙ ap (λ n. n + (if node.examine then 1 else 0)) (length-map node.know.handles (substitute put)) ∙ sound.older.examined ∙ sym applies.m;
    disequations = disequations;
  }
