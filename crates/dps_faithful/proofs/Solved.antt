-- Solutions of the first kid of a split, and what they are in the node.
use Rattle.std.proofs.Common.{◌≡◌, ℕ, zero, suc, ◌≤◌, List, [], ◌∷◌, map, length, refl, sym, ◌∙◌, ap, subst, inl, inr, Option, Some, None}
use Rattle.std.specs.Prelude.{Contains, All, slice_get, filter_map}
use Rattle.std.specs.Option.{option_map}
use Rattle.std.specs.List.{cons_option}
use Rattle.std.proofs.lemmas.List.Elements.{All-contains}
use Rattle.std.proofs.lemmas.Option.{slice_get-map}
use Rattle.dps_terms.specs.Tree.{Leaf, public, private, var, ax, entry, rigid, Tree, leaf, StandsIn, IsSubterm}
use Rattle.dps_terms.specs.Replace.{substitute, variables_to}
use Rattle.dps_terms.specs.Kinds.{IsBuiltOf, AnySymbol, NoRigidName}
use Rattle.dps_signature.specs.Signature.{HasShape, shapes}
use Rattle.dps_signature.specs.declared.SymKind.TheVariants.{Constructor}
use Rattle.dps_signature.specs.Kinds.{IsLeafOver}
use Rattle.dps_terms.proofs.Building.{leaf_meets, built_weaker, built_subterm}
use Rattle.dps_terms.proofs.Replacing.{keeps_subterms}
use Rattle.dps_terms.proofs.Subterms.{nested}
use Rattle.dps_process.specs.Problem.{Problem}
use Rattle.dps_unify.specs.Order.{level_of}
use Rattle.dps_unify.proofs.Trees.{substitute_in_turn, substitute_agrees}
use Rattle.dps_know.specs.Know.{Knowledge, entry_at, entry_under, know_under, compositions}
use Rattle.dps_know.specs.declared.know.Entry.{Entry}
use Rattle.dps_know.proofs.Listing.{in_head, in_tail, all_of}
use Rattle.dps_solver.specs.Levels.{IsLeafUpTo, IsTreeUpTo, IsGroundUpTo}
use Rattle.dps_solver.specs.Scene.{Disequation, Ask}
use Rattle.dps_solver.specs.Solutions.{IsMatched, IsMatchedUnder, IsNormalUnder, IsSolution}
use Rattle.dps_solver.specs.Search.{GeneralSolution}
use Rattle.dps_symeval.proofs.Listed.{from_mapped}
use Rattle.dps_directions.specs.Shapes.{IsListedFor}
use Rattle.dps_directions.specs.Valid.{IsComposed}
use Rattle.dps_node.specs.Node.{SymbolicConfig, Node, label_trees, variables_of, system_of, scene_of}
use Rattle.dps_node.specs.Splits.{binding, disequation_under, Applies}
use Rattle.dps_node.specs.Meaning.{IsTreeOver, IsSolutionOf}
use Rattle.dps_node.specs.Invariant.{IsNodeTree, IsPatternLeafOf, HasNoOwnName, IsSound}
use Rattle.dps_faithful.proofs.Validity.{disequation_at}
use Rattle.dps_faithful.proofs.Bindings.{free_stays}
use Rattle.dps_faithful.proofs.Kid.{label_known, from_kid_label, lowest, kid_none}

abbrev IsPair : Tree → Tree → Tree → Tree → Type 0
IsPair t u v w = let p : Tree × Tree = (t, u) in let q : Tree × Tree = (v, w) in p ≡ q

pub map_both : {X Y Z : Type 0} (f : X → Y) (h : Y → Z) (k : X → Z) (xs : List X) → ((x : X) → Contains xs x → h (f x) ≡ k x) → map h (map f xs) ≡ map k xs
map_both f h k [] e = refl
map_both f h k (x ∷ xs) e =
    let first = e x (in_head x xs) in
    let rest = map_both f h k xs (λ y c. e y (in_tail y x xs c)) in
    λ i. first i ∷ rest i

-- knowledge with trees put in keeps its levels
under_option : (z : ℕ → Tree) (o : Option Entry) (e : Entry) → o ≡ Some e → option_map (entry_under z) o ≡ Some (entry_under z e)
under_option z o e d = ap (option_map (entry_under z)) d

pub entry_at_under : (z : ℕ → Tree) (know : Knowledge) (i : ℕ) (e : Entry) → entry_at know i ≡ Some e → entry_at (know_under z know) i ≡ Some (entry_under z e)
entry_at_under z know zero e d = cc
entry_at_under z know (suc k) e d = slice_get-map (entry_under z) know.entries k ∙ under_option z (slice_get know.entries k) e d

pub ground_under : (names : ℕ → Type 0) (m : ℕ) (z : ℕ → Tree) (know : Knowledge) (l : ℕ) (t : Tree) → IsGroundUpTo names m know l t → IsGroundUpTo names m (know_under z know) l t
ground_under names m z know l t up = built_weaker (IsLeafUpTo names m know [] l) AnySymbol (IsLeafUpTo names m (know_under z know) [] l) t up at
  where
    at : (x : Leaf) → IsLeafUpTo names m know [] l x → IsLeafUpTo names m (know_under z know) [] l x
    at (public n) h = tt
    at (private n) h = h
    at (ax n) h = h
    at (var n) h = h
    at (rigid n) h = h
    at (entry n) h = (entry_under z h.0, entry_at_under z know n h.0 h.1, h.2)

-- one option before a list
with_option : (z : ℕ → Tree) (o : Option Tree) (rest : List Tree) → cons_option (option_map (substitute z) o) (map (substitute z) rest) ≡ map (substitute z) (cons_option o rest)
with_option z None rest = refl
with_option z (Some t) rest = refl

pub compositions_under : (z : ℕ → Tree) (es : List Entry) → filter_map (λ (e : Entry). e.composition) (map (entry_under z) es) ≡ map (substitute z) (filter_map (λ (e : Entry). e.composition) es)
compositions_under z [] = refl
compositions_under z (e ∷ es) =
    ap (λ (rest : List Tree). cons_option (option_map (substitute z) e.composition) rest) (compositions_under z es)
    ∙ with_option z e.composition (filter_map (λ (e : Entry). e.composition) es)

module _ (problem : Problem) (node : Node) (sound : IsSound problem node) (c : SymbolicConfig) (ask : Ask) (solution : GeneralSolution)
    (found : IsListedFor NoRigidName (scene_of node c) ask solution) (kid : Node) (applies : Applies node solution.bindings kid) where
  abbrev IsKnown : ℕ → Type 0
  IsKnown x = (l : ℕ) × (level_of (variables_of node) x ≡ Some l)

  abbrev put : ℕ → Tree
  put = binding node solution.bindings

  pub tree_known : (l : ℕ) (u : Tree) → IsTreeUpTo NoRigidName node.m node.know (variables_of node) l u → (x : ℕ) → StandsIn (var x) u → IsKnown x
  tree_known l u up x h = let b = leaf_meets (IsLeafUpTo NoRigidName node.m node.know (variables_of node) l) AnySymbol up h in (b.0, b.1)

  pub recorded_known : (u : Tree) → Contains (compositions node.know) u → (x : ℕ) → StandsIn (var x) u → IsKnown x
  recorded_known u h =
      tree_known node.m u (All-contains (λ t. IsComposed t × IsNodeTree problem.signature node node.m t) (compositions node.know) u sound.older.recorded h).1.level

  -- s is what the bindings become under t
  module _ (s t : ℕ → Tree) (gives : (x l : ℕ) → level_of (variables_of node) x ≡ Some l → s x ≡ substitute t (put x)) where
    pub same_tree : (u : Tree) → ((x : ℕ) → StandsIn (var x) u → IsKnown x) → substitute t (substitute put u) ≡ substitute s u
    same_tree u known =
        substitute_in_turn t put u ∙ substitute_agrees (λ n. substitute t (put n)) s u (λ n h. let l = known n h in sym (gives n l.0 l.1))

    pub same_recorded : map (substitute t) (compositions kid.know) ≡ map (substitute s) (compositions node.know)
    same_recorded =
        ap (λ (k : Knowledge). map (substitute t) (compositions k)) applies.know
        ∙ ap (map (substitute t)) (compositions_under put node.know.entries)
        ∙ map_both (substitute put) (substitute t) (substitute s) (compositions node.know) (λ u h. same_tree u (recorded_known u h))

    pub part : (w k : ℕ) → level_of (variables_of kid) w ≡ Some k → (x : ℕ) × (level_of (variables_of node) x ≡ Some k) × IsSubterm (t w) (s x)
    part w k e =
        let low = lowest problem node sound c ask solution found kid applies w k e in
        (low.x, low.level, subst (λ u. IsSubterm (t w) u) (sym (gives low.x k low.level)) (keeps_subterms (variables_to t) low.stands))

    module _ (others_s : (x : ℕ) → level_of (variables_of node) x ≡ None → s x ≡ leaf (var x)) (others_t : (x : ℕ) → level_of (variables_of kid) x ≡ None → t x ≡ leaf (var x)) where
      -- the patterns of disequations become the same too
      pattern_leaf : (d : Disequation) → Contains node.disequations d → (x : ℕ) → IsPatternLeafOf node d.free (var x) → substitute t (put x) ≡ s x
      pattern_leaf d h x (inl b) = sym (gives x b.0 b.1)
      pattern_leaf d h x (inr b) =
          let same : b.0 ≡ x = cc in
          let free : Contains d.free x = subst (λ y. Contains d.free y) same b.2 in
          let is = All-contains (λ y. (y ≤ length node.levels) × (level_of (variables_of node) y ≡ None)) d.free x (disequation_at problem node sound d h).free free in
          ap (substitute t) (free_stays node c ask solution found d x h free is.1)
          ∙ others_t x (kid_none problem node sound c ask solution found kid applies x is.0 is.1) ∙ sym (others_s x is.1)

      pub same_pairs : (d : Disequation) → Contains node.disequations d
          → map {B = Tree × Tree} (λ (p : Tree × Tree). (substitute t p.0, substitute t p.1)) (disequation_under put d).pairs
          ≡ map {B = Tree × Tree} (λ (p : Tree × Tree). (substitute s p.0, substitute s p.1)) d.pairs
      same_pairs d h =
          map_both {Y = Tree × Tree} {Z = Tree × Tree} (λ (p : Tree × Tree). (substitute put p.0, substitute put p.1))
          (λ (p : Tree × Tree). (substitute t p.0, substitute t p.1))
          (λ (p : Tree × Tree). (substitute s p.0, substitute s p.1)) d.pairs each
        where
          each : (p : Tree × Tree) → Contains d.pairs p
              → IsPair (substitute t (substitute put p.0)) (substitute t (substitute put p.1)) (substitute s p.0) (substitute s p.1)
          each p k =
              let left =
              same_tree p.0
              (tree_known node.m p.0 (All-contains (λ (q : Tree × Tree). IsNodeTree problem.signature node node.m q.0) d.pairs p (disequation_at problem node sound d h).trees k).level) in
              let up =
              (All-contains (λ (q : Tree × Tree). IsTreeOver problem.signature q.1 × HasNoOwnName q.1 × IsBuiltOf (IsPatternLeafOf node d.free) AnySymbol q.1) d.pairs p (disequation_at problem node sound d h).patterns k).2 in
              let right : substitute t (substitute put p.1) ≡ substitute s p.1 =
              substitute_in_turn t put p.1 ∙ substitute_agrees (λ n. substitute t (put n)) s p.1 (λ n b. pattern_leaf d h n (leaf_meets (IsPatternLeafOf node d.free) AnySymbol up b)) in
              λ i. (left i, right i)

      -- a solution of the node whose trees are those of the bindings solves the kid
      pub solves_kid : IsSolution NoRigidName (system_of node) s → IsSolution NoRigidName (system_of kid) t
      solves_kid solves = record {
        choice = record { trees = ground; others = others_t };
        normal = λ w k e. let x = part w k e in λ r h inside. solves.normal x.0 k x.1 r (subst (λ (rs : List Tree). Contains rs r) same_recorded h) (nested inside x.2);
        respects = record {
          labels = all_of (λ v. IsNormalUnder t (system_of kid) (substitute t v)) (label_trees kid) normal_label;
          disequations = subst (λ (ds : List Disequation). All (λ d. ¬ IsMatchedUnder t d) ds) (sym applies.disequations)
              (all_of (λ d. ¬ IsMatchedUnder t d) (map (disequation_under put) node.disequations) unmatched);
        };
      }
        where
          ground : (w k : ℕ) → level_of (variables_of kid) w ≡ Some k → IsGroundUpTo NoRigidName kid.m kid.know k (t w)
          ground w k e =
              let x = part w k e in
              subst (λ (q : Knowledge). IsGroundUpTo NoRigidName kid.m q k (t w)) (sym applies.know)
              (subst (λ m. IsGroundUpTo NoRigidName m (know_under put node.know) k (t w)) (sym applies.m)
              (ground_under NoRigidName node.m put node.know k (t w)
              (built_subterm (IsLeafUpTo NoRigidName node.m node.know [] k) AnySymbol (solves.choice.trees x.0 k x.1) x.2)))

          normal_label : (v : Tree) → Contains (label_trees kid) v → IsNormalUnder t (system_of kid) (substitute t v)
          normal_label v h r k inside =
              let u = from_kid_label problem node sound c ask solution found kid applies v h in
              let same : substitute t v ≡ substitute s u.0 = ap (substitute t) u.2 ∙ same_tree u.0 (label_known problem node sound c ask solution found kid applies u.0 u.1) in
              All-contains (λ w. IsNormalUnder s (system_of node) (substitute s w)) (label_trees node) u.0 solves.respects.labels u.1 r
              (subst (λ (rs : List Tree). Contains rs r) same_recorded k) (subst (λ w. IsSubterm r w) same inside)

          unmatched : (d : Disequation) → Contains (map (disequation_under put) node.disequations) d → ¬ IsMatchedUnder t d
          unmatched d h m =
              let k = from_mapped (disequation_under put) node.disequations d h in
              All-contains (λ e. ¬ IsMatchedUnder s e) node.disequations k.0 solves.respects.disequations k.1
              (subst (λ (ps : List (Tree × Tree)). IsMatched k.0.free ps) (same_pairs k.0 k.1) (subst (λ (e : Disequation). IsMatchedUnder t e) k.2 m))

      pub solves_kid_over : IsSolutionOf problem.signature node s → IsSolutionOf problem.signature kid t
      solves_kid_over solves = record {
        solution = solves_kid solves.solution;
        over = λ w k e. let x = part w k e in
            built_subterm (IsLeafOver problem.signature) (HasShape (shapes problem.signature) Constructor) (solves.over x.0 k x.1) x.2;
      }
