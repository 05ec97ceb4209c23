-- The first kid of a split has the word and the instances of the node.
use Rattle.std.proofs.Common.{◌≡◌, ℕ, suc, ◌+◌, ◌<◌, ◌≤◌, ◌^◌, List, [], ◌∷◌, map, length, refl, sym, ◌∙◌, ap, subst, inl, inr, arith, Option, Some, None}
use Rattle.std.specs.Prelude.{◌≢◌, Contains, All, slice_get, filter_map}
use Rattle.std.specs.List.{AllZip, cons_option}
use Rattle.std.proofs.lemmas.List.{length-map, length-append}
use Rattle.std.specs.Option.{option_map}
use Rattle.std.proofs.lemmas.List.Elements.{All-contains}
use Rattle.std.proofs.lemmas.Option.{slice_get_within}
use Rattle.dps_terms.specs.Tree.{Leaf, public, private, var, ax, entry, rigid, Tree, leaf, StandsIn}
use Rattle.dps_terms.specs.Replace.{replace, substitute, variables_to, put_entries}
use Rattle.dps_terms.specs.Kinds.{IsNoVariable, NoRigidName}
use Rattle.dps_signature.specs.Signature.{HasShape, HasArity, shapes}
use Rattle.dps_signature.specs.declared.SymKind.TheVariants.{Constructor}
use Rattle.dps_terms.proofs.Building.{leaf_meets}
use Rattle.dps_process.specs.Process.{Process, replace_in}
use Rattle.dps_process.specs.LawsOfReplacement.{IsFreshFor}
use Rattle.dps_process.specs.Problem.{Problem}
use Rattle.dps_process.specs.Steps.{Label, inputs, outputs, overhears}
use Rattle.dps_process.proofs.ReplacementsInTurn.{replacements_in_turn}
use Rattle.dps_unify.specs.Order.{level_of}
use Rattle.dps_know.specs.Know.{entry_under, know_under, recipe_of}
use Rattle.dps_know.specs.declared.know.Entry.{Entry}
use Rattle.dps_solver.specs.Scene.{Ask}
use Rattle.dps_solver.specs.Solutions.{valued, IsValuation, IsChoice}
use Rattle.dps_solver.specs.Search.{GeneralSolution}
use Rattle.dps_symeval.proofs.Listed.{contains_none, contains_first, contains_later, contains_cases}
use Rattle.dps_directions.specs.Shapes.{IsListedFor}
use Rattle.dps_directions.specs.Values.{HaveOlderValues, AreTreesOver}
use Rattle.dps_directions.proofs.Beginning.{levels_cases, some_level}
use Rattle.dps_directions.proofs.Valuations.{term_commutes, valuation_commutes, valuations_are_one}
use Rattle.dps_node.specs.Node.{SymbolicConfig, Node, label_tree, label_trees, label_under, variables_of, system_of, scene_of}
use Rattle.dps_node.specs.Splits.{new_level, new_levels, binding, IsConfigUnder, Applies}
use Rattle.dps_node.specs.Meaning.{recipe_under, word, AgreesWith}
use Rattle.dps_node.specs.Invariant.{IsOfNode, IsNodeTree, IsMessageLeaf, IsNodeMessage, IsNodePart, IsEntryRecipeLeaf, IsSound}
use Rattle.dps_faithful.specs.Laws.{HasLowNumbers}
use Rattle.dps_faithful.proofs.Lists.{placed}
use Rattle.dps_faithful.proofs.Levels.{level_is_listed, number_below}
use Rattle.dps_faithful.proofs.Bindings.{news, first, renumbered, not_of_node, counted_cases}
use Rattle.dps_faithful.proofs.Kid.{label_known}
use Rattle.dps_faithful.proofs.Solved.{map_both, tree_known, recorded_known, same_tree}
use Rattle.dps_faithful.proofs.Processes.{replace_in_agrees, each_binder}
use Rattle.dps_faithful.proofs.KidValues.{value_known, have_older}
use Rattle.dps_faithful.proofs.Leaves.{alone}

-- pairs of two lists
pub zip_left : {X Y : Type 0} (R : X → Y → Type 0) (xs : List X) (ys : List Y) (y : Y) → AllZip R xs ys → Contains ys y → (x : X) × Contains xs x × R x y
zip_left R [] [] y h c = absurd (contains_none y c)
zip_left R [] (v ∷ ys) y h c = absurd h
zip_left R (u ∷ xs) [] y h c = absurd h
zip_left {Y = Y} R (u ∷ xs) (v ∷ ys) y h c = elim (contains_cases v ys y c) [
  | inl e ↦ (u, contains_first u xs, subst (λ (w : Y). R u w) (sym e) h.0)
  | inr d ↦ let k = zip_left R xs ys y h.1 d in (k.0, contains_later u xs k.0 k.1, k.2)
]

zip_right : {X Y : Type 0} (R : X → Y → Type 0) (xs : List X) (ys : List Y) (x : X) → AllZip R xs ys → Contains xs x → (y : Y) × Contains ys y × R x y
zip_right R [] [] x h c = absurd (contains_none x c)
zip_right R [] (v ∷ ys) x h c = absurd h
zip_right R (u ∷ xs) [] x h c = absurd h
zip_right {X = X} R (u ∷ xs) (v ∷ ys) x h c = elim (contains_cases u xs x c) [
  | inl e ↦ (v, contains_first v ys, subst (λ (w : X). R w v) (sym e) h.0)
  | inr d ↦ let k = zip_right R xs ys x h.1 d in (k.0, contains_later v ys k.0 k.1, k.2)
]

-- labels that are replaced twice
labels_both : (f h k : Tree → Tree) (ls : List Label) → ((u : Tree) → Contains (filter_map label_tree ls) u → h (f u) ≡ k u) → map (label_under h) (map (label_under f) ls) ≡ map (label_under k) ls
labels_both f h k [] e = refl
labels_both f h k (inputs c u ∷ ls) e =
    let one = e u (contains_first u (filter_map label_tree ls)) in
    let rest = labels_both f h k ls (λ v d. e v (contains_later u (filter_map label_tree ls) v d)) in
    λ i. inputs c (one i) ∷ rest i
labels_both f h k (outputs c j ∷ ls) e = ap (λ (ms : List Label). outputs c j ∷ ms) (labels_both f h k ls e)
labels_both f h k (overhears c j ∷ ls) e = ap (λ (ms : List Label). overhears c j ∷ ms) (labels_both f h k ls e)

option_both : (f h k : Tree → Tree) (o : Option Tree) → ((u : Tree) → o ≡ Some u → h (f u) ≡ k u) → option_map h (option_map f o) ≡ option_map k o
option_both f h k None e = refl
option_both f h k (Some u) e = ap Some (e u refl)

pub composition_listed : (es : List Entry) (e : Entry) (u : Tree) → Contains es e → e.composition ≡ Some u → Contains (filter_map (λ (e : Entry). e.composition) es) u
composition_listed [] e u h d = absurd (contains_none e h)
composition_listed (x ∷ es) e u h d = elim (contains_cases x es e h) [
  | inl same ↦ at x.composition (ap (λ (q : Entry). q.composition) (sym same) ∙ d)
  | inr k ↦ later x.composition (composition_listed es e u k d)
]
  where
    at : (o : Option Tree) → o ≡ Some u → Contains (cons_option o (filter_map (λ (e : Entry). e.composition) es)) u
    at None q = cc
    at (Some t) q = let same : t ≡ u = cc in subst (λ v. Contains (t ∷ filter_map (λ (e : Entry). e.composition) es) v) same (contains_first t (filter_map (λ (e : Entry). e.composition) es))

    later : (o : Option Tree) → Contains (filter_map (λ (e : Entry). e.composition) es) u → Contains (cons_option o (filter_map (λ (e : Entry). e.composition) es)) u
    later None q = q
    later (Some t) q = contains_later t (filter_map (λ (e : Entry). e.composition) es) u q

module _ (problem : Problem) (node : Node) (sound : IsSound problem node) (c : SymbolicConfig) (ask : Ask) (solution : GeneralSolution)
    (found : IsListedFor NoRigidName (scene_of node c) ask solution) (kid : Node) (applies : Applies node solution.bindings kid) where
  abbrev put : ℕ → Tree
  put = binding node solution.bindings

  abbrev IsKnown : ℕ → Type 0
  IsKnown x = (l : ℕ) × (level_of (variables_of node) x ≡ Some l)

  message_known : (u : Tree) → IsNodeMessage problem.signature node u → (x : ℕ) → StandsIn (var x) u → IsKnown x
  message_known u up x h =
      some_level (level_of (variables_of node) x) (leaf_meets (IsMessageLeaf problem.signature node) (HasShape (shapes problem.signature) Constructor) up h)

  module _ (s t : ℕ → Tree) (gives : (x l : ℕ) → level_of (variables_of node) x ≡ Some l → s x ≡ substitute t (put x)) where
    abbrev same : (u : Tree) → ((x : ℕ) → StandsIn (var x) u → IsKnown x) → substitute t (substitute put u) ≡ substitute s u
    same u known = same_tree problem node sound c ask solution found kid applies s t gives u known

    same_entry : (e : Entry) → Contains node.know.entries e → entry_under t (entry_under put e) ≡ entry_under s e
    same_entry e h =
        let place = placed node.know.entries e h in
        let recipe = same e.recipe (λ x k.
        let b = leaf_meets (IsEntryRecipeLeaf problem.signature node (suc place.0) e.level) (HasArity (shapes problem.signature)) (sound.older.recipes (suc place.0) e place.1) k in (b.0, b.1)) in
        let composition = option_both (substitute put) (substitute t) (substitute s) e.composition
        (λ u d. same u (recorded_known problem node sound c ask solution found kid applies u (composition_listed node.know.entries e u h d))) in
        λ i. record { recipe = recipe i; level = e.level; composition = composition i }

    pub same_know : know_under t kid.know ≡ know_under s node.know
    same_know =
        ap (know_under t) applies.know ∙
        (let entries = map_both (entry_under put) (entry_under t) (entry_under s) node.know.entries same_entry in
        let handles = map_both (substitute put) (substitute t) (substitute s) node.know.handles (λ u h.
        same u (tree_known problem node sound c ask solution found kid applies node.m u (All-contains (IsNodeTree problem.signature node node.m) node.know.handles u sound.older.handles h).level)) in
        λ i. record { entries = entries i; handles = handles i })

    pub same_word : word kid t ≡ word node s
    same_word =
        ap (map (label_under (recipe_under kid.know t))) applies.labels
        ∙ labels_both (substitute put) (recipe_under kid.know t) (recipe_under node.know s) node.labels each
      where
        each : (u : Tree) → Contains (label_trees node) u → recipe_under kid.know t (substitute put u) ≡ recipe_under node.know s u
        each u h =
            let tree = same u (label_known problem node sound c ask solution found kid applies u h) in
            λ i. recipe_of (same_know i) (tree i)

    -- what a configuration of the kid becomes is what that of the node becomes
    module _ (low : HasLowNumbers kid) (k l : SymbolicConfig) (listed : Contains node.configs k) (under : IsConfigUnder node put k l) where
      node_older : HaveOlderValues (scene_of node k)
      node_older = record {
        older = λ i e v there at x h. (sound.older.values k i e v listed there at).1 x h;
        each_value = All-contains (λ (q : SymbolicConfig). length q.values ≡ length node.know.entries) node.configs k sound.older.each_value listed;
      }

      module _ (g : List Tree) (after : g ≡ map (substitute (valued g t)) l.values) where
        same_term : (u : Tree) → ((x : ℕ) → StandsIn (var x) u → IsKnown x) → substitute (valued g t) (substitute (valued l.values put) u) ≡ substitute (valued g s) u
        same_term u known = term_commutes (scene_of node k) put l.values node_older under.values t s g gives after u known

        same_frame : map (substitute (valued g t)) l.frame ≡ map (substitute (valued g s)) k.frame
        same_frame =
            ap (map (substitute (valued g t))) under.frame
            ∙ map_both (substitute (valued l.values put)) (substitute (valued g t)) (substitute (valued g s)) k.frame (λ u h.
            same_term u (message_known u (All-contains (IsNodeMessage problem.signature node) k.frame u
            (All-contains (λ (q : SymbolicConfig). All (IsNodeMessage problem.signature node) q.values × All (IsNodeMessage problem.signature node) q.frame) node.configs k sound.older.messages listed).1 h)))

        -- no binder captures what is put
        number_low : (x : ℕ) → (j : ℕ) × (level_of (variables_of kid) x ≡ Some j) → x < 2 ^ 63
        number_low x j = let up = number_below kid (x, j.0) (level_is_listed (variables_of kid) x j.0 j.1) in omega (arith, up, low)

        new_low : (n i v : ℕ) → slice_get (news node c ask solution found) i ≡ Some v → n ≡ first node c ask solution found + i → n < 2 ^ 63
        new_low n i v at is =
            let within = slice_get_within (news node c ask solution found) i v at in
            omega (arith, within, is, low, ap length applies.levels, length-append node.levels (new_levels node solution.bindings), length-map (news node c ask solution found) (new_level node solution.bindings))

        fresh_variable : (x n : ℕ) → 2 ^ 63 ≤ x → var n ≢ var x → ¬ StandsIn (var x) (valued l.values put n)
        fresh_variable x n high other h = elim (levels_cases (level_of (variables_of node) n)) [
          | inr e ↦ let d = value_known problem node sound c ask solution found kid applies k l listed under n e.0 e.1 x h in
              let below = number_low x (d.0, d.1) in omega (arith, below, high)
          | inl e ↦ elim (counted_cases (first node c ask solution found) (news node c ask solution found) n) [
            | inl d ↦
                let is : put n ≡ leaf (var (first node c ask solution found + d.0)) = ap (substitute (renumbered node c ask solution found)) (not_of_node node c ask solution found n e) ∙ d.2 in
                let q : var x ≡ var (first node c ask solution found + d.0) =
                alone (var x) (var (first node c ask solution found + d.0)) (subst (λ t. StandsIn (var x) (put_entries l.values t)) is h) in
                let number : x ≡ first node c ask solution found + d.0 = cc in
                let below = new_low x d.0 n d.1 number in omega (arith, below, high)
            | inr d ↦
                let is : put n ≡ leaf (var n) = ap (substitute (renumbered node c ask solution found)) (not_of_node node c ask solution found n e) ∙ d.1 in
                other (sym (alone (var x) (var n) (subst (λ t. StandsIn (var x) (put_entries l.values t)) is h)))
          ]
        ]

        is_fresh : (x : ℕ) → 2 ^ 63 ≤ x → IsFreshFor (variables_to (valued l.values put)) x
        is_fresh x high (public n) d h = d (sym (alone (var x) (public n) h))
        is_fresh x high (private n) d h = d (sym (alone (var x) (private n) h))
        is_fresh x high (var n) d h = fresh_variable x n high d h
        is_fresh x high (ax n) d h = d (sym (alone (var x) (ax n) h))
        is_fresh x high (entry n) d h = d (sym (alone (var x) (entry n) h))
        is_fresh x high (rigid n) d h = d (sym (alone (var x) (rigid n) h))

        others : (z : Leaf) → IsNoVariable z → replace (variables_to (valued g t)) (variables_to (valued l.values put) z) ≡ variables_to (valued g s) z
        others (public n) h = refl
        others (private n) h = refl
        others (var n) h = absurd h
        others (ax n) h = refl
        others (entry n) h = refl
        others (rigid n) h = refl

        same_part : (p : Process) → IsNodePart problem.signature node p
            → replace_in (variables_to (valued g t)) (replace_in (variables_to (valued l.values put)) p) ≡ replace_in (variables_to (valued g s)) p
        same_part p is =
            replacements_in_turn (variables_to (valued l.values put)) (variables_to (valued g t)) p
            (each_binder (λ x. 2 ^ 63 ≤ x) (IsFreshFor (variables_to (valued l.values put))) p is_fresh is.binders)
            ∙ replace_in_agrees (λ z. replace (variables_to (valued g t)) (variables_to (valued l.values put) z)) (variables_to (valued g s)) p (record {
              variables = λ x h. same_term (leaf (var x)) (λ y k.
                  some_level (level_of (variables_of node) y) (subst (IsOfNode node) (sym (number y x (alone (var y) (var x) k))) (is.free x h)));
              others = others;
            })
          where
            number : (i j : ℕ) → var i ≡ var j → i ≡ j
            number i j e = cc

        same_parts : map (replace_in (variables_to (valued g t))) l.parts ≡ map (replace_in (variables_to (valued g s))) k.parts
        same_parts =
            ap (map (replace_in (variables_to (valued g t)))) under.parts
            ∙ map_both (replace_in (variables_to (valued l.values put))) (replace_in (variables_to (valued g t))) (replace_in (variables_to (valued g s))) k.parts (λ p h.
            same_part p (All-contains (IsNodePart problem.signature node) k.parts p
            (All-contains (λ (q : SymbolicConfig). All (IsNodePart problem.signature node) q.parts) node.configs k sound.older.parts listed) h))

        same_values : IsValuation (scene_of node k) s g
        same_values = valuation_commutes (scene_of node k) put l.values node_older under.values t s g gives after

      pub to_node : (m : SymbolicConfig) → IsConfigUnder kid t l m → IsConfigUnder node s k m
      to_node m h = record {
        side = h.side ∙ under.side;
        values = same_values m.values h.values;
        frame = h.frame ∙ same_frame m.values h.values;
        parts = h.parts ∙ same_parts m.values h.values;
        mixed = h.mixed ∙ under.mixed;
      }

      module _ (choice : IsChoice NoRigidName (system_of kid) t) (over : AreTreesOver NoRigidName (system_of node) [] s) where
        kid_over : AreTreesOver NoRigidName (system_of kid) [] t
        kid_over = record { trees = choice.trees }

        pub to_kid : (m : SymbolicConfig) → IsConfigUnder node s k m → IsConfigUnder kid t l m
        to_kid m h =
            let one = valuations_are_one NoRigidName (scene_of kid l) [] t (have_older problem node sound c ask solution found kid applies k l listed under) kid_over in
            let two = valuations_are_one NoRigidName (scene_of node k) [] s node_older over in
            let is : one.0 ≡ m.values = sym (two.2 one.0 (same_values one.0 one.1)) ∙ two.2 m.values h.values in
            let after : m.values ≡ map (substitute (valued m.values t)) l.values = subst (λ (g : List Tree). g ≡ map (substitute (valued g t)) l.values) is one.1 in
            record {
              side = h.side ∙ sym under.side;
              values = after;
              frame = h.frame ∙ sym (same_frame m.values after);
              parts = h.parts ∙ sym (same_parts m.values after);
              mixed = h.mixed ∙ sym under.mixed;
            }

    module _ (low : HasLowNumbers kid) (choice : IsChoice NoRigidName (system_of kid) t) (before : IsChoice NoRigidName (system_of node) s) where
      pub agrees_with_kid : AgreesWith node s kid t
      agrees_with_kid = record {
        word = same_word;
        instances = λ side d. (
          λ h.
              let k = zip_left (IsConfigUnder node put) node.configs kid.configs h.config applies.configs h.listed in
              record {
                config = k.0;
                listed = k.1;
                of_side = sym k.2.side ∙ h.of_side;
                ground = h.ground;
                under = to_node low k.0 h.config k.1 k.2 h.ground h.under;
                parts = h.parts;
                frame = h.frame;
              },
          λ h.
              let l = zip_right (IsConfigUnder node put) node.configs kid.configs h.config applies.configs h.listed in
              record {
                config = l.0;
                listed = l.1;
                of_side = l.2.side ∙ h.of_side;
                ground = h.ground;
                under = to_kid low h.config l.0 h.listed l.2 choice (record { trees = before.trees }) h.ground h.under;
                parts = h.parts;
                frame = h.frame;
              },
        );
      }
