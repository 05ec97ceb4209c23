-- The scenes of a node that keeps the invariant are valid.
use Rattle.std.proofs.Common.{◌≡◌, ℕ, suc, ◌+◌, ◌-◌, ◌<◌, ◌≤◌, ◌^◌, List, [], ◌∷◌, ◌++◌, map, length, refl, sym, ap, subst, inl, inr, arith, Option, Some, None}
use Rattle.std.specs.Prelude.{Contains, All, true, false, if◌then◌else◌, filter_map}
use Rattle.std.specs.List.{flat_map}
use Rattle.std.proofs.lemmas.List.Elements.{All-contains, All-append, All-weaker, All-map}
use Rattle.dps_terms.specs.Tree.{Leaf, public, private, var, ax, entry, rigid, Tree}
use Rattle.dps_terms.specs.Replace.{substitute, variables_to}
use Rattle.dps_terms.specs.Variables.{occurrences}
use Rattle.dps_terms.specs.Kinds.{IsBuiltOf, AnySymbol, NoRigidName}
use Rattle.dps_signature.specs.Signature.{HasShape, HasArity, shapes}
use Rattle.dps_signature.specs.declared.SymKind.TheVariants.{Constructor}
use Rattle.dps_terms.proofs.Building.{leaf_meets, built_of, built_weaker}
use Rattle.dps_process.specs.Process.{replace_in}
use Rattle.dps_process.specs.Problem.{Problem}
use Rattle.dps_process.specs.Steps.{Label, inputs, outputs, overhears}
use Rattle.dps_unify.specs.Order.{level_of}
use Rattle.dps_know.specs.Know.{compositions}
use Rattle.dps_know.specs.declared.know.Entry.{Entry}
use Rattle.dps_know.proofs.Listing.{all_of}
use Rattle.dps_solver.specs.Levels.{IsLeafUpTo, IsTreeUpTo, AnyRigidName}
use Rattle.dps_solver.specs.Scene.{Disequation}
use Rattle.dps_solver.specs.Solutions.{IsSolution, valued, IsValuation}
use Rattle.dps_solver.specs.Search.{entry_numbers, disequation_numbers, system_numbers}
use Rattle.dps_symeval.proofs.Listed.{from_joined, contains_cases}
use Rattle.dps_directions.specs.Valid.{AreUnique, IsValueLeaf, IsPatternLeaf, IsComposed, IsValid}
use Rattle.dps_directions.proofs.Valuations.{tree_above, ground_above}
use Rattle.dps_node.specs.Node.{SymbolicConfig, Node, label_trees, variables_of, system_of, scene_of}
use Rattle.dps_node.specs.Splits.{IsConfigUnder}
use Rattle.dps_node.specs.Meaning.{IsTreeOver}
use Rattle.dps_node.specs.Invariant.{known_level, messages_in, HasNoOwnName, IsNodeTree, IsMessageLeaf, IsNodeMessage, IsEntryRecipeLeaf, IsPatternLeafOf, IsNodeDisequation, IsSound}
use Rattle.dps_node.proofs.Truth.{level_meets, is_before_new}
use Rattle.dps_faithful.specs.Laws.{HasLowNumbers}
use Rattle.dps_faithful.proofs.Levels.{occurrence_stands, is_labelled, each_once_numbered, number_below}
use Rattle.dps_faithful.proofs.Lists.{placed}

-- what a configuration becomes under z, where g lists the entries' values
abbrev pub config_under : (ℕ → Tree) → List Tree → SymbolicConfig → SymbolicConfig
config_under z g c =
    record {
      side = c.side;
      parts = map (replace_in (variables_to (valued g z))) c.parts;
      frame = map (substitute (valued g z)) c.frame;
      values = g;
      mixed = c.mixed;
    }

pub becomes : (node : Node) (z : ℕ → Tree) (g : List Tree) (c : SymbolicConfig) → IsValuation (scene_of node c) z g → IsConfigUnder node z c (config_under z g c)
becomes node z g c h = record { side = refl; values = h; frame = refl; parts = refl; mixed = refl }

-- trees of one level are of each greater one, and rigid names may stand in more
wider_leaf : (node : Node) (l k : ℕ) → l ≤ k → (x : Leaf) → IsLeafUpTo NoRigidName node.m node.know (variables_of node) l x → IsLeafUpTo AnyRigidName node.m node.know (variables_of node) k x
wider_leaf node l k h (public n) b = tt
wider_leaf node l k h (private n) b = absurd b
wider_leaf node l k h (ax n) b = absurd b
wider_leaf node l k h (var n) b = (b.0, b.1, omega (arith, b.2, h))
wider_leaf node l k h (entry n) b = (b.0, b.1, omega (arith, b.2, h))
wider_leaf node l k h (rigid n) b = absurd b.0

pub wider : (node : Node) (l k : ℕ) (t : Tree) → l ≤ k → IsTreeUpTo NoRigidName node.m node.know (variables_of node) l t → IsTreeUpTo AnyRigidName node.m node.know (variables_of node) k t
wider node l k t h up =
    built_weaker (IsLeafUpTo NoRigidName node.m node.know (variables_of node) l) AnySymbol (IsLeafUpTo AnyRigidName node.m node.know (variables_of node) k) t up (wider_leaf node l k h)

-- messages come with labels
more_messages : (before after : List Label) → messages_in before ≤ messages_in (before ++ after)
more_messages [] after = omega arith
more_messages (inputs c t ∷ before) after = more_messages before after
more_messages (outputs c j ∷ before) after = let h = more_messages before after in omega (arith, h)
more_messages (overhears c j ∷ before) after = let h = more_messages before after in omega (arith, h)

-- a label's tree has its place among the labels
pub record HasPlace (labels : List Label) (t : Tree) : Type 0 where
  pub before : List Label
  pub channel : ℕ
  pub after : List Label
  pub at : labels ≡ before ++ (inputs channel t ∷ after)

abbrev tree_of_label : Label → Option Tree
tree_of_label (inputs c t) = Some t
tree_of_label (outputs c j) = None
tree_of_label (overhears c j) = None

later_place : (l : Label) (ls : List Label) (t : Tree) → HasPlace ls t → HasPlace (l ∷ ls) t
later_place l ls t h = record { before = l ∷ h.before; channel = h.channel; after = h.after; at = ap (λ (xs : List Label). l ∷ xs) h.at }

pub label_place : (labels : List Label) (t : Tree) → Contains (filter_map tree_of_label labels) t → HasPlace labels t
label_place [] t h = absurd (omega (arith, h.1))
label_place (inputs c u ∷ ls) t h = elim (contains_cases u (filter_map tree_of_label ls) t h) [
  | inl e ↦ record { before = []; channel = c; after = ls; at = ap (λ (v : Tree). inputs c v ∷ ls) (sym e) }
  | inr k ↦ later_place (inputs c u) ls t (label_place ls t k)
]
label_place (outputs c j ∷ ls) t h = later_place (outputs c j) ls t (label_place ls t h)
label_place (overhears c j ∷ ls) t h = later_place (overhears c j) ls t (label_place ls t h)

module _ (problem : Problem) (node : Node) (sound : IsSound problem node) where
  pub known_low : known_level node ≤ node.m
  known_low = at node.closed refl
    where
      at : (b : _) → node.closed ≡ b → known_level node ≤ node.m
      at true e = subst (λ b. (if b then node.m else node.m - 1) ≤ node.m) (sym e) (omega arith)
      at false e = subst (λ b. (if b then node.m else node.m - 1) ≤ node.m) (sym e) (omega arith)

  -- a label's tree is one of the node, of the level that the frame had then
  pub label_tree_is : (t : Tree) → Contains (label_trees node) t → IsNodeTree problem.signature node node.m t
  label_tree_is t h =
      let place = label_place node.labels t h in
      let is = sound.levels.labels place.before place.after place.channel t place.at in
      record {
        over = is.over;
        declared_names = is.declared_names;
        level = tree_above NoRigidName node.m node.know (variables_of node) (messages_in place.before) node.m t
            (omega (arith, sound.levels.length, more_messages place.before (inputs place.channel t ∷ place.after), ap messages_in place.at)) is.level;
      }

  value_leaf : (x : Leaf) → IsMessageLeaf problem.signature node x → IsValueLeaf (system_of node) x
  value_leaf (public n) h = tt
  value_leaf (private n) h = tt
  value_leaf (rigid n) h = tt
  value_leaf (var n) h = h
  value_leaf (ax n) h = h
  value_leaf (entry n) h = h

  value_built : (t : Tree) → IsNodeMessage problem.signature node t → IsBuiltOf (IsValueLeaf (system_of node)) AnySymbol t
  value_built t h =
      built_of (IsValueLeaf (system_of node)) AnySymbol t (λ x k. value_leaf x (leaf_meets (IsMessageLeaf problem.signature node) (HasShape (shapes problem.signature) Constructor) h k)) (λ f ts k. tt)

  pattern_leaf : (free : List ℕ) (x : Leaf) → IsPatternLeafOf node free x → IsPatternLeaf (system_of node) free x
  pattern_leaf free x (inl h) = inl (wider_leaf node node.m node.m (omega arith) x h)
  pattern_leaf free x (inr h) = inr h

  pub disequation_at : (d : Disequation) → Contains node.disequations d → IsNodeDisequation problem.signature node d
  disequation_at d h = All-contains (IsNodeDisequation problem.signature node) node.disequations d sound.older.disequations h

  module _ (c : SymbolicConfig) (listed : Contains node.configs c) where
    unique : (s : ℕ → Tree) (g : List Tree) → IsSolution NoRigidName (system_of node) s → IsValuation (scene_of node c) s g
        → (x l : ℕ) → level_of (variables_of node) x ≡ Some l → AreUnique NoRigidName (system_of node) s g l
    unique s g solution valuation x l e t u ht hu nt nu same =
        let low = level_meets (λ (p : ℕ × ℕ). p.1 ≤ known_level node) (variables_of node) x l sound.levels.variables e in
        (sound.facts s c (config_under s g c) solution listed (becomes node s g c valuation)).unique t u
        (ground_above NoRigidName node.m node.know l (known_level node) t low ht) (ground_above NoRigidName node.m node.know l (known_level node) u low hu) nt nu same

    -- the numbers of its variables
    module _ (low : HasLowNumbers node) where
      abbrev IsLow : ℕ → Type 0
      IsLow x = x < 2 ^ 63

      level_low : (x l : ℕ) → level_of (variables_of node) x ≡ Some l → IsLow x
      level_low x l e = let h = is_before_new node x l e in omega (arith, h, low)

      tree_low : (t : Tree) (l : ℕ) → IsTreeUpTo NoRigidName node.m node.know (variables_of node) l t → All IsLow (occurrences t)
      tree_low t l up = all_of IsLow (occurrences t) (λ x h.
          let b = leaf_meets (IsLeafUpTo NoRigidName node.m node.know (variables_of node) l) AnySymbol up (occurrence_stands t x h) in level_low x b.0 b.1)

      flat_low : {X : Type 0} (f : X → List ℕ) (xs : List X) → ((x : X) → Contains xs x → All IsLow (f x)) → All IsLow (flat_map f xs)
      flat_low f xs h = all_of IsLow (flat_map f xs) (λ n k. let x = from_joined f xs n k in All-contains IsLow (f x.0) n (h x.0 x.1) x.2)

      entry_low : (e : Entry) → Contains node.know.entries e → All IsLow (entry_numbers e)
      entry_low e h = all_of IsLow (entry_numbers e) (λ x k.
          let place = placed node.know.entries e h in
          let b =
          leaf_meets (IsEntryRecipeLeaf problem.signature node (suc place.0) e.level) (HasArity (shapes problem.signature))
          (sound.older.recipes (suc place.0) e place.1) (occurrence_stands e.recipe x k) in
          level_low x b.0 b.1)

      pattern_low : (d : Disequation) → Contains node.disequations d → (t : Tree) → IsBuiltOf (IsPatternLeafOf node d.free) AnySymbol t → All IsLow (occurrences t)
      pattern_low d h t up = all_of IsLow (occurrences t) (λ x k. at x (leaf_meets (IsPatternLeafOf node d.free) AnySymbol up (occurrence_stands t x k)))
        where
          at : (x : ℕ) → IsPatternLeafOf node d.free (var x) → IsLow x
          at x (inl b) = level_low x b.0 b.1
          at x (inr b) =
              let same : b.0 ≡ x = cc in
              let is = All-contains (λ y. (y ≤ length node.levels) × (level_of (variables_of node) y ≡ None)) d.free b.0 (disequation_at d h).free b.2 in
              omega (arith, same, is.0, low)

      disequation_low : (d : Disequation) → Contains node.disequations d → All IsLow (disequation_numbers d)
      disequation_low d h =
          let is = disequation_at d h in
          All-append IsLow d.free (flat_map (λ (p : Tree × Tree). occurrences p.0 ++ occurrences p.1) d.pairs)
          (All-weaker (λ x. (x ≤ length node.levels) × (level_of (variables_of node) x ≡ None)) IsLow (λ x k. omega (arith, k.0, low)) d.free is.free)
          (flat_low (λ (p : Tree × Tree). occurrences p.0 ++ occurrences p.1) d.pairs (λ p k. All-append IsLow (occurrences p.0) (occurrences p.1)
          (tree_low p.0 node.m (All-contains (λ (q : Tree × Tree). IsNodeTree problem.signature node node.m q.0) d.pairs p is.trees k).level)
          (pattern_low d h p.1 (All-contains (λ (q : Tree × Tree). IsTreeOver problem.signature q.1 × HasNoOwnName q.1 × IsBuiltOf (IsPatternLeafOf node d.free) AnySymbol q.1) d.pairs p is.patterns k).2)))

      numbers : All IsLow (system_numbers (system_of node))
      numbers =
          All-append IsLow (map (λ (p : ℕ × ℕ). p.0) (variables_of node)) _
          (All-map IsLow (λ (p : ℕ × ℕ). p.0) (variables_of node) (all_of (λ (p : ℕ × ℕ). IsLow p.0) (variables_of node) (λ p h. let up = number_below node p h in omega (arith, up, low))))
          (All-append IsLow (flat_map entry_numbers node.know.entries) _ (flat_low entry_numbers node.know.entries entry_low)
          (All-append IsLow (flat_map occurrences (compositions node.know)) _
          (flat_low occurrences (compositions node.know) (λ t h. tree_low t node.m (All-contains (λ t. IsComposed t × IsNodeTree problem.signature node node.m t) (compositions node.know) t sound.older.recorded h).1.level))
          (All-append IsLow (flat_map occurrences node.know.handles) _
          (flat_low occurrences node.know.handles (λ t h. tree_low t node.m (All-contains (IsNodeTree problem.signature node node.m) node.know.handles t sound.older.handles h).level))
          (All-append IsLow (flat_map occurrences (label_trees node)) (flat_map disequation_numbers node.disequations)
          (flat_low occurrences (label_trees node) (λ t h. tree_low t node.m (label_tree_is t h).level))
          (flat_low disequation_numbers node.disequations disequation_low)))))

      pub scene_is_valid : IsValid NoRigidName (scene_of node c)
      scene_is_valid = record {
        older = λ i e v there at x h. (sound.older.values c i e v listed there at).1 x h;
        labelled = is_labelled node;
        consistent = sound.consistent;
        unique = unique;
        values = All-weaker (IsNodeMessage problem.signature node) (IsBuiltOf (IsValueLeaf (system_of node)) AnySymbol) value_built c.values
            (All-contains (λ (k : SymbolicConfig). All (IsNodeMessage problem.signature node) k.values × All (IsNodeMessage problem.signature node) k.frame) node.configs c sound.older.messages listed).0;
        labels = all_of (IsTreeUpTo AnyRigidName node.m node.know (variables_of node) node.m) (label_trees node) (λ t h. wider node node.m node.m t (omega arith) (label_tree_is t h).level);
        recorded = All-weaker (λ t. IsComposed t × IsNodeTree problem.signature node node.m t) (λ t. IsComposed t × IsTreeUpTo AnyRigidName node.m node.know (variables_of node) node.m t)
            (λ t h. (h.0, wider node node.m node.m t (omega arith) h.1.level)) (compositions node.know) sound.older.recorded;
        trees = all_of (λ (d : Disequation). All (λ (p : Tree × Tree). IsTreeUpTo AnyRigidName node.m node.know (variables_of node) node.m p.0) d.pairs) node.disequations
            (λ d h. All-weaker (λ (q : Tree × Tree). IsNodeTree problem.signature node node.m q.0) (λ (p : Tree × Tree). IsTreeUpTo AnyRigidName node.m node.know (variables_of node) node.m p.0)
            (λ p is. wider node node.m node.m p.0 (omega arith) is.level) d.pairs (disequation_at d h).trees);
        patterns = all_of (λ (d : Disequation). All (λ (p : Tree × Tree). IsBuiltOf (IsPatternLeaf (system_of node) d.free) AnySymbol p.1) d.pairs) node.disequations
            (λ d h. All-weaker (λ (q : Tree × Tree). IsTreeOver problem.signature q.1 × HasNoOwnName q.1 × IsBuiltOf (IsPatternLeafOf node d.free) AnySymbol q.1) (λ (p : Tree × Tree). IsBuiltOf (IsPatternLeaf (system_of node) d.free) AnySymbol p.1)
            (λ p is. built_weaker (IsPatternLeafOf node d.free) AnySymbol (IsPatternLeaf (system_of node) d.free) p.1 is.2 (pattern_leaf d.free)) d.pairs (disequation_at d h).patterns);
        free = λ d h x k. (All-contains (λ y. (y ≤ length node.levels) × (level_of (variables_of node) y ≡ None)) d.free x (disequation_at d h).free k).1;
        each_value = All-contains (λ (k : SymbolicConfig). length k.values ≡ length node.know.entries) node.configs c sound.older.each_value listed;
        once = each_once_numbered node;
        variables = All-weaker (λ (p : ℕ × ℕ). p.1 ≤ known_level node) (λ (p : ℕ × ℕ). p.1 ≤ node.m) (λ p h. omega (arith, h, known_low)) (variables_of node) sound.levels.variables;
        entries = sound.levels.entries;
        numbers = numbers;
      }
