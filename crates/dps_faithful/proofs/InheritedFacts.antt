-- The facts of a node pass to the first kid of a split.
use Rattle.std.proofs.Common.{◌≡◌, ℕ, suc, ◌-◌, ◌≤◌, List, [], ◌∷◌, map, refl, sym, ◌∙◌, ap, subst, inl, inr, arith, Option, Some, None}
use Rattle.std.specs.Prelude.{◌⊎◌, ◌≢◌, Contains, Any, slice_get, if◌then◌else◌}
use Rattle.std.specs.Option.{option_map}
use Rattle.std.proofs.lemmas.List.Elements.{All-contains}
use Rattle.std.proofs.lemmas.Option.{slice_get-map}
use Rattle.dps_branch.specs.declared.Side.{Side}
use Rattle.dps_terms.specs.Tree.{var, entry, Tree, leaf, StandsIn, IsSubterm, IsStrictSubterm}
use Rattle.dps_terms.specs.Replace.{substitute, put_entries}
use Rattle.dps_terms.specs.Kinds.{NoRigidName}
use Rattle.dps_signature.specs.Kinds.{IsRecipe}
use Rattle.dps_theory.specs.Frames.{HasValue, Succeeds}
use Rattle.dps_process.specs.Problem.{Problem}
use Rattle.dps_process.specs.Steps.{Config}
use Rattle.dps_unify.specs.Order.{level_of}
use Rattle.dps_know.specs.Know.{Knowledge, entry_under, know_under, compositions, recipe_of, IsNormal}
use Rattle.dps_know.specs.declared.know.Entry.{Entry}
use Rattle.dps_solver.specs.Levels.{IsGroundUpTo}
use Rattle.dps_solver.specs.Scene.{Ask}
use Rattle.dps_solver.specs.Solutions.{IsSolution}
use Rattle.dps_solver.specs.Search.{GeneralSolution}
use Rattle.dps_symeval.proofs.Listed.{mapped, from_mapped}
use Rattle.dps_directions.specs.Shapes.{IsListedFor}
use Rattle.dps_directions.specs.Valid.{AreUnique, IsComposed}
use Rattle.dps_directions.proofs.Listing.{any_at, contains_any}
use Rattle.dps_solver.proofs.Each.{contains_at}
use Rattle.dps_node.specs.Node.{SymbolicConfig, Node, label_trees, variables_of, system_of, scene_of}
use Rattle.dps_node.specs.Splits.{binding, IsConfigUnder, Applies, excluded, IsSplit}
use Rattle.dps_node.specs.Meaning.{IsTreeOver, IsSolutionOf, IsInstance, HasNormalTree, IsClosedInMeaning, recipe_under}
use Rattle.dps_node.specs.Invariant.{known_level, IsNodeTree, HasFacts, HasRecipes, IsSound}
use Rattle.dps_faithful.specs.Laws.{HasLowNumbers, BindsTrees, HasMeaning}
use Rattle.dps_faithful.proofs.Kid.{kid_labels, label_known}
use Rattle.dps_faithful.proofs.Solved.{ground_under, compositions_under, tree_known, recorded_known, same_tree, same_recorded}
use Rattle.dps_faithful.proofs.Instances.{zip_left, composition_listed, same_know, to_node}
use Rattle.dps_faithful.proofs.Inheriting.{ground_back, whole, gives, solves_node, solves_over, agrees_whole}

-- what stood at a place before
at_before : {X Y : Type 0} (f : X → Y) (o : Option X) (y : Y) → option_map f o ≡ Some y → (x : X) × (o ≡ Some x) × (y ≡ f x)
at_before f None y e = cc
at_before f (Some x) y e = (x, refl, (let q : y ≡ f x = cc in q))

none_before : {X Y : Type 0} (f : X → Y) (o : Option X) → option_map f o ≡ None → o ≡ None
none_before f None e = refl
none_before f (Some x) e = cc

module _ (problem : Problem) (node : Node) (sound : IsSound problem node) (c : SymbolicConfig) (ask : Ask) (solution : GeneralSolution)
    (found : IsListedFor NoRigidName (scene_of node c) ask solution) (kid : Node) (applies : Applies node solution.bindings kid)
    (binds : BindsTrees problem.signature solution) (low : HasLowNumbers kid) where
  abbrev put : ℕ → Tree
  put = binding node solution.bindings

  same_known : known_level kid ≡ known_level node
  same_known = λ i. if applies.closed i then applies.m i else applies.m i - 1

  entry_was : (j : ℕ) (e : Entry) → slice_get kid.know.entries j ≡ Some e → (d : Entry) × (slice_get node.know.entries j ≡ Some d) × (e ≡ entry_under put d)
  entry_was j e h =
      at_before (entry_under put) (slice_get node.know.entries j) e
      (sym (ap (λ (q : Knowledge). slice_get q.entries j) applies.know ∙ slice_get-map (entry_under put) node.know.entries j) ∙ h)

  handle_was : (j : ℕ) (u : Tree) → slice_get kid.know.handles j ≡ Some u → (d : Tree) × (slice_get node.know.handles j ≡ Some d) × (u ≡ substitute put d)
  handle_was j u h =
      at_before (substitute put) (slice_get node.know.handles j) u
      (sym (ap (λ (q : Knowledge). slice_get q.handles j) applies.know ∙ slice_get-map (substitute put) node.know.handles j) ∙ h)

  to_know : (l : ℕ) (u : Tree) → IsGroundUpTo NoRigidName kid.m kid.know l u → IsGroundUpTo NoRigidName node.m node.know l u
  to_know l u h =
      ground_back node.m put node.know l u
      (subst (λ (q : Knowledge). IsGroundUpTo NoRigidName node.m q l u) applies.know (subst (λ m. IsGroundUpTo NoRigidName m kid.know l u) applies.m h))

  from_know : (l : ℕ) (u : Tree) → IsGroundUpTo NoRigidName node.m node.know l u → IsGroundUpTo NoRigidName kid.m kid.know l u
  from_know l u h =
      subst (λ (q : Knowledge). IsGroundUpTo NoRigidName kid.m q l u) (sym applies.know)
      (subst (λ m. IsGroundUpTo NoRigidName m (know_under put node.know) l u) (sym applies.m) (ground_under NoRigidName node.m put node.know l u h))

  module _ (t : ℕ → Tree) (solves : IsSolution NoRigidName (system_of kid) t) where
    abbrev s : ℕ → Tree
    s = whole problem node sound c ask solution found kid applies binds low t solves

    abbrev given : (x l : ℕ) → level_of (variables_of node) x ≡ Some l → s x ≡ substitute t (put x)
    given = gives problem node sound c ask solution found kid applies binds low t solves

    abbrev same : (u : Tree) → ((x : ℕ) → StandsIn (var x) u → (l : ℕ) × (level_of (variables_of node) x ≡ Some l)) → substitute t (substitute put u) ≡ substitute s u
    same = same_tree problem node sound c ask solution found kid applies s t given

    same_list : map (substitute t) (compositions kid.know) ≡ map (substitute s) (compositions node.know)
    same_list = same_recorded problem node sound c ask solution found kid applies s t given

    abbrev known_recorded : (u : Tree) → Contains (compositions node.know) u → (x : ℕ) → StandsIn (var x) u → (l : ℕ) × (level_of (variables_of node) x ≡ Some l)
    known_recorded = recorded_known problem node sound c ask solution found kid applies

    module _ (k l : SymbolicConfig) (there : Contains kid.configs k) (under : IsConfigUnder kid t k l) where
      was : (q : SymbolicConfig) × Contains node.configs q × IsConfigUnder node put q k
      was = zip_left (IsConfigUnder node put) node.configs kid.configs k applies.configs there

      under_node : IsConfigUnder node s was.0 l
      under_node = to_node problem node sound c ask solution found kid applies s t given low was.0 k was.1 was.2 l under

      facts : HasFacts node s l
      facts = sound.facts s was.0 l (solves_node problem node sound c ask solution found kid applies binds low t solves) was.1 under_node

      recorded : (j : ℕ) (e : Entry) (v q : Tree) → slice_get kid.know.entries j ≡ Some e → e.composition ≡ Some q → slice_get l.values j ≡ Some v → put_entries l.values (substitute t q) ≡ v
      recorded j e v q at is value =
          let d = entry_was j e at in
          let o = at_before (substitute put) d.0.composition q (ap (λ (x : Entry). x.composition) (sym d.2) ∙ is) in
          let in_list = composition_listed node.know.entries d.0 o.0 (contains_at node.know.entries j d.0 d.1) o.1 in
          ap (λ (u : Tree). put_entries l.values (substitute t u)) o.2
          ∙ ap (put_entries l.values) (same o.0 (known_recorded o.0 in_list)) ∙ facts.recorded j d.0 v o.0 d.1 o.1 value

      label_again : (u w : Tree) → Contains (label_trees node) w → IsSubterm u (substitute s w) → Any (λ z. IsSubterm u (substitute t z)) (label_trees kid)
      label_again u w h inside =
          contains_any (λ z. IsSubterm u (substitute t z)) (label_trees kid) (substitute put w)
          (subst (λ (ts : List Tree). Contains ts (substitute put w)) (sym (kid_labels problem node sound c ask solution found kid applies)) (mapped (substitute put) (label_trees node) w h))
          (subst (λ z. IsSubterm u z) (sym (same w (label_known problem node sound c ask solution found kid applies w h))) inside)

      arguments : (q u : Tree) → Contains (compositions kid.know) q → IsStrictSubterm u (substitute t q) → IsComposed u
          → Any (λ z. IsSubterm u (substitute t z)) (label_trees kid) ⊎ ((j : ℕ) (v : Tree) → slice_get l.values j ≡ Some v → put_entries l.values u ≢ v)
      arguments q u h inside composed =
          let o = from_mapped (substitute put) (compositions node.know) q
          (subst (λ (ts : List Tree). Contains ts q) (ap compositions applies.know ∙ compositions_under put node.know.entries) h) in
          elim (facts.arguments o.0 u o.1 (subst (λ z. IsStrictSubterm u z) (ap (substitute t) o.2 ∙ same o.0 (known_recorded o.0 o.1)) inside) composed) [
            | inl d ↦ let w = any_at (λ z. IsSubterm u (substitute s z)) (label_trees node) d in inl (label_again u w.0 w.1 w.2)
            | inr d ↦ inr d
          ]

      alone_in_kid : (n : ℕ) → AreUnique NoRigidName (system_of node) s l.values n → AreUnique NoRigidName (system_of kid) t l.values n
      alone_in_kid n h p q hp hq np nq e =
          h p q (to_know n p hp) (to_know n q hq)
          (subst (λ (ts : List Tree). IsNormal ts p) same_list np) (subst (λ (ts : List Tree). IsNormal ts q) same_list nq) e

      simple : (j : ℕ) (e : Entry) (v u : Tree) → slice_get kid.know.entries j ≡ Some e → e.composition ≡ None → e.level ≤ known_level kid → slice_get l.values j ≡ Some v
          → IsComposed u → IsGroundUpTo NoRigidName kid.m kid.know (known_level kid) u → put_entries l.values u ≢ v
      simple j e v u at none up value composed ground =
          let d = entry_was j e at in
          let level = ap (λ (x : Entry). x.level) d.2 in
          facts.simple j d.0 v u d.1 (none_before (substitute put) d.0.composition (ap (λ (x : Entry). x.composition) (sym d.2) ∙ none)) (omega (arith, up, same_known, level)) value composed
          (subst (λ n. IsGroundUpTo NoRigidName node.m node.know n u) same_known (to_know (known_level kid) u ground))

      handles : (j : ℕ) (u message : Tree) → slice_get kid.know.handles j ≡ Some u → slice_get l.frame j ≡ Some message → put_entries l.values (substitute t u) ≡ message
      handles j u message at value =
          let d = handle_was j u at in
          let is = All-contains (IsNodeTree problem.signature node node.m) node.know.handles d.0 sound.older.handles (contains_at node.know.handles j d.0 d.1) in
          ap (λ (q : Tree). put_entries l.values (substitute t q)) d.2
          ∙ ap (put_entries l.values) (same d.0 (tree_known problem node sound c ask solution found kid applies node.m d.0 is.level)) ∙ facts.handles j d.0 message d.1 value

      pub kid_facts : HasFacts kid t l
      kid_facts = record {
        new = facts.new;
        recorded = recorded;
        arguments = arguments;
        unique = subst (λ n. AreUnique NoRigidName (system_of kid) t l.values n) (sym same_known) (alone_in_kid (known_level node) facts.unique);
        simple = simple;
        handles = handles;
      }

      module _ (over : (w n : ℕ) → level_of (variables_of kid) w ≡ Some n → IsTreeOver problem.signature (t w)) where
        recipe_is : (j : ℕ) → recipe_under kid.know t (leaf (entry (suc j))) ≡ recipe_under node.know s (leaf (entry (suc j)))
        recipe_is j = ap (λ (q : Knowledge). recipe_of q (leaf (entry (suc j)))) (same_know problem node sound c ask solution found kid applies s t given)

        pub kid_recipes : HasRecipes problem kid t l
        kid_recipes j e v at value =
            let d = entry_was j e at in
            let h = sound.recipes s was.0 l (solves_over problem node sound c ask solution found kid applies binds low t solves over) was.1 under_node j d.0 v d.1 value in
            let level : d.0.level ≡ e.level = ap (λ (x : Entry). x.level) (sym d.2) in (
              subst (λ n. IsRecipe problem.signature n (recipe_under kid.know t (leaf (entry (suc j))))) level
                  (subst (λ r. IsRecipe problem.signature d.0.level r) (sym (recipe_is j)) h.0),
              subst (λ r. HasValue problem.theory l.frame r v) (sym (recipe_is j)) h.1,
            )

        pub kid_unique : IsClosedInMeaning problem node → AreUnique NoRigidName (system_of kid) t l.values kid.m
        kid_unique closed =
            let h = closed.unique s was.0 l (solves_over problem node sound c ask solution found kid applies binds low t solves over) was.1 under_node in
            subst (λ n. AreUnique NoRigidName (system_of kid) t l.values n) (sym applies.m) (alone_in_kid node.m h)

  -- closed in meaning
  module _ (closed : IsClosedInMeaning problem node) (t : ℕ → Tree) (h : IsSolutionOf problem.signature kid t) where
    abbrev of : ℕ → Tree
    of = whole problem node sound c ask solution found kid applies binds low t h.solution

    over_node : IsSolutionOf problem.signature node of
    over_node = solves_over problem node sound c ask solution found kid applies binds low t h.solution h.over

    instance_was : (side : Side) (d : Config) → IsInstance kid t side d → IsInstance node of side d
    instance_was side d i = ((agrees_whole problem node sound c ask solution found kid applies binds low t h.solution).instances side d).0 i

    normal_tree : (r : Tree) → HasNormalTree problem node of r → HasNormalTree problem kid t r
    normal_tree r n = record {
      tree = n.tree;
      over = n.over;
      ground = subst (λ m. IsGroundUpTo NoRigidName kid.m kid.know m n.tree) (sym applies.m) (from_know node.m n.tree n.ground);
      normal = subst (λ (ts : List Tree). IsNormal ts n.tree) (sym (same_list t h.solution)) n.normal;
      value = λ k l there under.
          let q = was t h.solution k l there under in n.value q.0 l q.1 (under_node t h.solution k l there under);
    }

    computed : (side : Side) (d : Config) (r : Tree) → IsInstance kid t side d → IsRecipe problem.signature kid.m r → Succeeds problem.theory d.frame r → HasNormalTree problem kid t r
    computed side d r i recipe succeeds =
        normal_tree r (closed.computed of side d r over_node (instance_was side d i) (subst (λ m. IsRecipe problem.signature m r) applies.m recipe) succeeds)

  pub kid_closed : IsClosedInMeaning problem node → IsClosedInMeaning problem kid
  kid_closed closed = record {
    equivalent = λ t one two d e h left right.
        closed.equivalent (of closed t h) one two d e (over_node closed t h) (instance_was closed t h one d left) (instance_was closed t h two e right);
    unique = λ t k l h there under. kid_unique t h.solution k l there under h.over closed;
    computed = λ t side d r h i recipe succeeds. computed closed t h side d r i recipe succeeds;
  }

  pub kid_meaning : HasMeaning problem kid
  kid_meaning = record {
    facts = λ t k l solves there under. kid_facts t solves k l there under;
    recipes = λ t k l h there under. kid_recipes t h.solution k l there under h.over;
    closed = λ e. kid_closed (sound.closed (sym applies.closed ∙ e));
  }

pub first_has_meaning : (problem : Problem) (node first second : Node) (c : SymbolicConfig) (ask : Ask) (solution : GeneralSolution) → IsSound problem node
    → IsListedFor NoRigidName (scene_of node c) ask solution → BindsTrees problem.signature solution → IsSplit node solution.bindings (first ∷ second ∷ []) → HasLowNumbers first
    → HasMeaning problem first
first_has_meaning problem node first second c ask solution sound found binds split low =
    let one : split.0 ≡ first = at first second split.0 (excluded node solution.bindings) split.2 in
    subst (λ (q : Node). HasMeaning problem q) one (kid_meaning problem node sound c ask solution found split.0 split.1 binds (subst HasLowNumbers (sym one) low))
  where
    at : (x y z w : Node) → x ∷ y ∷ [] ≡ z ∷ w ∷ [] → z ≡ x
    at x y z w e = cc
