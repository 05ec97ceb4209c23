-- A solution of the first kid of a split is one of the node, with the same word and instances.
use Rattle.std.proofs.Common.{◌≡◌, ℕ, ◌+◌, List, [], ◌∷◌, map, sym, ap, subst, inl, inr, arith, Option, Some, None}
use Rattle.std.specs.Prelude.{Contains}
use Rattle.std.proofs.lemmas.List.Elements.{All-contains}
use Rattle.dps_terms.specs.Tree.{Leaf, public, private, var, ax, entry, rigid, Tree, leaf, StandsIn, IsSubterm}
use Rattle.dps_terms.specs.Replace.{substitute, variables_to}
use Rattle.dps_terms.specs.Kinds.{AnySymbol, IsNoVariable, NoRigidName}
use Rattle.dps_signature.specs.Signature.{HasShape, shapes}
use Rattle.dps_signature.specs.declared.SymKind.TheVariants.{Constructor}
use Rattle.dps_signature.specs.Kinds.{IsLeafOver}
use Rattle.dps_terms.proofs.Building.{leaf_meets, built_of, built_weaker, built_instance}
use Rattle.dps_terms.proofs.Replacing.{keeps_subterms}
use Rattle.dps_terms.proofs.Subterms.{nested}
use Rattle.dps_process.specs.Problem.{Problem}
use Rattle.dps_unify.specs.Order.{level_of}
use Rattle.dps_know.specs.Know.{Knowledge, know_under, compositions}
use Rattle.dps_know.specs.declared.know.Entry.{Entry}
use Rattle.dps_know.proofs.Listing.{all_of}
use Rattle.dps_solver.specs.Levels.{IsLeafUpTo, IsTreeUpTo, IsGroundUpTo}
use Rattle.dps_solver.specs.Scene.{Disequation, Ask}
use Rattle.dps_solver.specs.Solutions.{IsMatched, IsMatchedUnder, IsNormalUnder, IsSolution}
use Rattle.dps_solver.specs.Search.{GeneralSolution}
use Rattle.dps_symeval.proofs.Listed.{mapped}
use Rattle.dps_directions.specs.Shapes.{IsListedFor}
use Rattle.dps_directions.proofs.Invariant.{IsBuiltLeaf}
use Rattle.dps_directions.proofs.Listing.{any_at}
use Rattle.dps_directions.proofs.Outcomes.{binding_at}
use Rattle.dps_directions.proofs.Directed.{outcome_of}
use Rattle.dps_directions.proofs.Valuations.{level_of_instance}
use Rattle.dps_node.specs.Node.{SymbolicConfig, Node, label_trees, variables_of, system_of, scene_of}
use Rattle.dps_node.specs.Splits.{binding, disequation_under, Applies, excluded, IsSplit}
use Rattle.dps_node.specs.Meaning.{IsTreeOver, IsSolutionOf, AgreesWith}
use Rattle.dps_node.specs.Invariant.{IsSound}
use Rattle.dps_faithful.specs.Laws.{HasLowNumbers, BindsTrees, ComesFromNode}
use Rattle.dps_faithful.proofs.Levels.{is_labelled}
use Rattle.dps_faithful.proofs.Bindings.{first, news, renumbered, counted_cases}
use Rattle.dps_faithful.proofs.Kid.{kid_labels, kid_level, label_known}
use Rattle.dps_faithful.proofs.Solved.{same_tree, same_recorded, same_pairs}
use Rattle.dps_faithful.proofs.KidValues.{entry_low, entry_at_back}
use Rattle.dps_faithful.proofs.Leaves.{leaf_of_instance, alone}
use Rattle.dps_faithful.proofs.Instances.{agrees_with_kid}

pub ground_back : (m : ℕ) (z : ℕ → Tree) (know : Knowledge) (l : ℕ) (t : Tree) → IsGroundUpTo NoRigidName m (know_under z know) l t → IsGroundUpTo NoRigidName m know l t
ground_back m z know l t up = built_weaker (IsLeafUpTo NoRigidName m (know_under z know) [] l) AnySymbol (IsLeafUpTo NoRigidName m know [] l) t up at
  where
    at : (x : Leaf) → IsLeafUpTo NoRigidName m (know_under z know) [] l x → IsLeafUpTo NoRigidName m know [] l x
    at (public n) h = tt
    at (private n) h = h
    at (ax n) h = h
    at (var n) h = h
    at (rigid n) h = h
    at (entry n) h =
        let d = entry_at_back z know n h.0 h.1 in
        let level = ap (λ (e : Entry). e.level) d.2 in
        (d.0, d.1, omega (arith, level, h.2))

module _ (problem : Problem) (node : Node) (sound : IsSound problem node) (c : SymbolicConfig) (ask : Ask) (solution : GeneralSolution)
    (found : IsListedFor NoRigidName (scene_of node c) ask solution) (kid : Node) (applies : Applies node solution.bindings kid)
    (binds : BindsTrees problem.signature solution) (low : HasLowNumbers kid) where
  abbrev put : ℕ → Tree
  put = binding node solution.bindings

  -- what is no variable comes from the bindings
  not_renumbered : (x : ℕ) (z : Leaf) → IsNoVariable z → StandsIn z (put x) → StandsIn z (solution.bindings x)
  not_renumbered x z other h =
      let y = leaf_of_instance (variables_to (renumbered node c ask solution found)) z (solution.bindings x) h in
      subst (λ q. StandsIn q (solution.bindings x)) (at y.0 y.2) y.1
    where
      no_number : (n : ℕ) → ¬ (z ≡ var n)
      no_number n e = subst IsNoVariable e other

      at : (y : Leaf) → StandsIn z (variables_to (renumbered node c ask solution found) y) → y ≡ z
      at (public n) k = sym (alone z (public n) k)
      at (private n) k = sym (alone z (private n) k)
      at (ax n) k = sym (alone z (ax n) k)
      at (entry n) k = sym (alone z (entry n) k)
      at (rigid n) k = sym (alone z (rigid n) k)
      at (var n) k = elim (counted_cases (first node c ask solution found) (news node c ask solution found) n) [
        | inl d ↦ absurd (no_number (first node c ask solution found + d.0) (alone z (var (first node c ask solution found + d.0)) (subst (λ t. StandsIn z t) d.2 k)))
        | inr d ↦ absurd (no_number n (alone z (var n) (subst (λ t. StandsIn z t) d.1 k)))
      ]

  built_leaf : (x l : ℕ) → level_of (variables_of node) x ≡ Some l → (z : Leaf) → IsNoVariable z → StandsIn z (put x)
      → IsBuiltLeaf (scene_of node c) (outcome_of NoRigidName (scene_of node c) ask solution found).last l z
  built_leaf x l e z other h =
      let o = outcome_of NoRigidName (scene_of node c) ask solution found in
      leaf_meets (IsBuiltLeaf (scene_of node c) o.last l) AnySymbol (o.kept.bindings x l e).leaves
      (subst (λ t. StandsIn z t) (binding_at (scene_of node c) ask solution o x l e) (not_renumbered x z other h))

  -- a binding is a tree of at most the level of what is bound
  pub put_level : (x l : ℕ) → level_of (variables_of node) x ≡ Some l → IsTreeUpTo NoRigidName node.m node.know (variables_of kid) l (put x)
  put_level x l e = built_of (IsLeafUpTo NoRigidName node.m node.know (variables_of kid) l) AnySymbol (put x) at (λ f ts h. tt)
    where
      at : (z : Leaf) → StandsIn z (put x) → IsLeafUpTo NoRigidName node.m node.know (variables_of kid) l z
      at (public n) h = tt
      at (private n) h = built_leaf x l e (private n) tt h
      at (ax n) h = built_leaf x l e (ax n) tt h
      at (entry n) h = entry_low problem node sound c ask solution found kid applies x l n e h
      at (rigid n) h = absurd (binds.rigid x n (not_renumbered x (rigid n) tt h))
      at (var n) h = kid_level problem node sound c ask solution found kid applies x l n e h

  -- over the signature
  renumbered_leaf : (z : Leaf) → IsLeafOver problem.signature z → IsTreeOver problem.signature (variables_to (renumbered node c ask solution found) z)
  renumbered_leaf (public n) h = h
  renumbered_leaf (private n) h = tt
  renumbered_leaf (ax n) h = tt
  renumbered_leaf (entry n) h = tt
  renumbered_leaf (rigid n) h = tt
  renumbered_leaf (var n) h = elim (counted_cases (first node c ask solution found) (news node c ask solution found) n) [
    | inl d ↦ subst (IsTreeOver problem.signature) (sym d.2) tt
    | inr d ↦ subst (IsTreeOver problem.signature) (sym d.1) tt
  ]

  pub put_over : (x : ℕ) → IsTreeOver problem.signature (put x)
  put_over x =
      built_instance (IsLeafOver problem.signature) (HasShape (shapes problem.signature) Constructor) (IsLeafOver problem.signature) (variables_to (renumbered node c ask solution found))
      (solution.bindings x) (binds.over x) (λ z h k. renumbered_leaf z k)

  module _ (t : ℕ → Tree) (solves : IsSolution NoRigidName (system_of kid) t) where
    chosen : Option ℕ → Tree → Tree → Tree
    chosen (Some l) u v = u
    chosen None u v = v

    pub whole : ℕ → Tree
    whole x = chosen (level_of (variables_of node) x) (substitute t (put x)) (leaf (var x))

    pub gives : (x l : ℕ) → level_of (variables_of node) x ≡ Some l → whole x ≡ substitute t (put x)
    unfolding whole chosen
    gives x l e = ap (λ (o : Option ℕ). chosen o (substitute t (put x)) (leaf (var x))) e

    others : (x : ℕ) → level_of (variables_of node) x ≡ None → whole x ≡ leaf (var x)
    unfolding whole chosen
    others x e = ap (λ (o : Option ℕ). chosen o (substitute t (put x)) (leaf (var x))) e

    pub same_list : map (substitute t) (compositions kid.know) ≡ map (substitute whole) (compositions node.know)
    same_list = same_recorded problem node sound c ask solution found kid applies whole t gives

    ground : (y k : ℕ) → level_of (variables_of kid) y ≡ Some k → IsGroundUpTo NoRigidName node.m node.know k (t y)
    ground y k e =
        ground_back node.m put node.know k (t y)
        (subst (λ (q : Knowledge). IsGroundUpTo NoRigidName node.m q k (t y)) applies.know
        (subst (λ m. IsGroundUpTo NoRigidName m kid.know k (t y)) applies.m (solves.choice.trees y k e)))

    label_normal : (u : Tree) → Contains (label_trees node) u → IsNormalUnder whole (system_of node) (substitute whole u)
    label_normal u h r k inside =
        let same : substitute t (substitute put u) ≡ substitute whole u =
        same_tree problem node sound c ask solution found kid applies whole t gives u (label_known problem node sound c ask solution found kid applies u h) in
        let there : Contains (label_trees kid) (substitute put u) =
        subst (λ (ts : List Tree). Contains ts (substitute put u)) (sym (kid_labels problem node sound c ask solution found kid applies)) (mapped (substitute put) (label_trees node) u h) in
        All-contains (λ w. IsNormalUnder t (system_of kid) (substitute t w)) (label_trees kid) (substitute put u) solves.respects.labels there r
        (subst (λ (rs : List Tree). Contains rs r) (sym same_list) k) (subst (λ w. IsSubterm r w) (sym same) inside)

    whole_normal : (x l : ℕ) → level_of (variables_of node) x ≡ Some l → IsNormalUnder whole (system_of node) (whole x)
    whole_normal x l e r k inside =
        let u = any_at (λ w. StandsIn (var x) w) (label_trees node) (is_labelled node x l e) in
        label_normal u.0 u.1 r k (nested inside (keeps_subterms (variables_to whole) u.2))

    unmatched : (d : Disequation) → Contains node.disequations d → ¬ IsMatchedUnder whole d
    unmatched d h m =
        let there : Contains kid.disequations (disequation_under put d) =
        subst (λ (ds : List Disequation). Contains ds (disequation_under put d)) (sym applies.disequations) (mapped (disequation_under put) node.disequations d h) in
        All-contains (λ q. ¬ IsMatchedUnder t q) kid.disequations (disequation_under put d) solves.respects.disequations there
        (subst (λ (ps : List (Tree × Tree)). IsMatched d.free ps)
        (sym (same_pairs problem node sound c ask solution found kid applies whole t gives others solves.choice.others d h)) m)

    pub solves_node : IsSolution NoRigidName (system_of node) whole
    solves_node = record {
      choice = record {
        trees = λ x l e. subst (IsGroundUpTo NoRigidName node.m node.know l) (sym (gives x l e))
            (level_of_instance NoRigidName node.m node.know (variables_of kid) t l ground (put x) (put_level x l e));
        others = others;
      };
      normal = whole_normal;
      respects = record {
        labels = all_of (λ u. IsNormalUnder whole (system_of node) (substitute whole u)) (label_trees node) label_normal;
        disequations = all_of (λ d. ¬ IsMatchedUnder whole d) node.disequations unmatched;
      };
    }

    pub agrees_whole : AgreesWith node whole kid t
    agrees_whole = agrees_with_kid problem node sound c ask solution found kid applies whole t gives low solves.choice solves_node.choice

    module _ (over : (w l : ℕ) → level_of (variables_of kid) w ≡ Some l → IsTreeOver problem.signature (t w)) where
      over_leaf : (x l : ℕ) → level_of (variables_of node) x ≡ Some l → (z : Leaf) → StandsIn z (put x) → IsLeafOver problem.signature z → IsTreeOver problem.signature (variables_to t z)
      over_leaf x l e (public n) h k = k
      over_leaf x l e (private n) h k = tt
      over_leaf x l e (ax n) h k = tt
      over_leaf x l e (entry n) h k = tt
      over_leaf x l e (rigid n) h k = tt
      over_leaf x l e (var n) h k = let j = kid_level problem node sound c ask solution found kid applies x l n e h in over n j.0 j.1

      pub solves_over : IsSolutionOf problem.signature node whole
      solves_over = record {
        solution = solves_node;
        over = λ x l e. subst (IsTreeOver problem.signature) (sym (gives x l e))
            (built_instance (IsLeafOver problem.signature) (HasShape (shapes problem.signature) Constructor) (IsLeafOver problem.signature) (variables_to t) (put x) (put_over x) (over_leaf x l e));
      }

      pub comes_from_node : ComesFromNode problem node solution.bindings kid t
      comes_from_node = record {
        s = whole;
        solves = solves_over;
        gives = gives;
        agrees = agrees_whole;
      }

pub first_comes_from : (problem : Problem) (node first second : Node) (c : SymbolicConfig) (ask : Ask) (solution : GeneralSolution) → IsSound problem node
    → IsListedFor NoRigidName (scene_of node c) ask solution → BindsTrees problem.signature solution → IsSplit node solution.bindings (first ∷ second ∷ []) → HasLowNumbers first
    → (t : ℕ → Tree) → IsSolutionOf problem.signature first t → ComesFromNode problem node solution.bindings first t
first_comes_from problem node first second c ask solution sound found binds split low t solves =
    let one : split.0 ≡ first = at first second split.0 (excluded node solution.bindings) split.2 in
    subst (λ (q : Node). ComesFromNode problem node solution.bindings q t) one
    (let there : IsSolutionOf problem.signature split.0 t = subst (λ (q : Node). IsSolutionOf problem.signature q t) (sym one) solves in
    comes_from_node problem node sound c ask solution found split.0 split.1 binds (subst HasLowNumbers (sym one) low) t there.solution there.over)
  where
    at : (x y z w : Node) → x ∷ y ∷ [] ≡ z ∷ w ∷ [] → z ≡ x
    at x y z w e = cc
