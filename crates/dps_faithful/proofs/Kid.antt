-- The first kid of a split: its labels, and the levels of its variables.
use Rattle.std.proofs.Common.{◌≡◌, ℕ, ◌+◌, ◌≤◌, List, [], ◌∷◌, map, length, refl, sym, ◌∙◌, ap, subst, inl, inr, arith, Some, None}
use Rattle.std.specs.Prelude.{Contains, slice_get, filter, filter_map, min}
use Rattle.std.specs.Option.{option_map}
use Rattle.std.proofs.lemmas.Bool.{cases_lt, eqb-true}
use Rattle.std.proofs.lemmas.Option.{slice_get-map}
use Rattle.std.proofs.lemmas.Map.Views.{Contains-from_any}
use Rattle.dps_terms.specs.Tree.{var, Tree, StandsIn, IsSubterm, itself}
use Rattle.dps_terms.specs.Replace.{substitute, variables_to}
use Rattle.dps_terms.specs.Variables.{occurrences}
use Rattle.dps_terms.specs.Kinds.{AnySymbol, NoRigidName}
use Rattle.dps_terms.proofs.Building.{leaf_meets}
use Rattle.dps_terms.proofs.Replacing.{keeps_subterms}
use Rattle.dps_terms.proofs.Subterms.{nested}
use Rattle.dps_process.specs.Problem.{Problem}
use Rattle.dps_process.specs.Steps.{Label, inputs, outputs, overhears}
use Rattle.dps_unify.specs.Order.{level_of}
use Rattle.dps_unify.proofs.Trees.{variable_of_instance}
use Rattle.dps_solver.specs.Levels.{IsLeafUpTo, IsVariableUpTo}
use Rattle.dps_solver.specs.Scene.{Ask}
use Rattle.dps_solver.specs.Search.{GeneralSolution}
use Rattle.dps_symeval.proofs.Listed.{contains_none, contains_one, contains_first, contains_later, contains_cases, mapped, from_mapped, filtered, from_filtered}
use Rattle.dps_directions.specs.Shapes.{IsListedFor}
use Rattle.dps_directions.proofs.Beginning.{in_occurrences, levels_cases}
use Rattle.dps_directions.proofs.Listing.{any_at}
use Rattle.dps_node.specs.Node.{SymbolicConfig, Node, label_tree, label_trees, label_under, variables_of, scene_of}
use Rattle.dps_renewal.specs.Numbering.{is_among, least}
use Rattle.dps_node.specs.Splits.{new_level, new_levels, binding, Applies}
use Rattle.dps_node.specs.Invariant.{IsSound}
use Rattle.dps_faithful.proofs.Lists.{among_true, in_front, behind}
use Rattle.dps_faithful.proofs.Levels.{occurrence_stands, level_is_listed, listed_level, is_labelled, level_out, level_in, same_level}
use Rattle.dps_faithful.proofs.Validity.{label_tree_is}
use Rattle.dps_faithful.proofs.Bindings.{news, renumbered, IsOld, IsRenumbered, in_new_binding}

-- the trees of labels that are replaced
pub trees_under : (f : Tree → Tree) (ls : List Label) → filter_map label_tree (map (label_under f) ls) ≡ map f (filter_map label_tree ls)
trees_under f [] = refl
trees_under f (inputs c t ∷ ls) = ap (λ (ts : List Tree). f t ∷ ts) (trees_under f ls)
trees_under f (outputs c j ∷ ls) = trees_under f ls
trees_under f (overhears c j ∷ ls) = trees_under f ls

-- the least of a list is in it, and above none
least_below : (ns : List ℕ) (n : ℕ) → Contains ns n → least ns ≤ n
least_below [] n h = absurd (contains_none n h)
least_below (k ∷ []) n h = let e : n ≡ k = contains_one k n h in omega (arith, e)
least_below (k ∷ j ∷ ns) n h = elim (contains_cases k (j ∷ ns) n h) [
  | inl e ↦ omega (arith, e)
  | inr d ↦ let low = least_below (j ∷ ns) n d in omega (arith, low)
]

least_there : (ns : List ℕ) (n : ℕ) → Contains ns n → Contains ns (least ns)
least_there [] n h = absurd (contains_none n h)
least_there (k ∷ []) n h = contains_first k []
least_there (k ∷ j ∷ ns) n h = elim (cases_lt k (least (j ∷ ns))) [
  | inl low ↦ let e : min k (least (j ∷ ns)) ≡ k = omega (arith, low) in subst (λ m. Contains (k ∷ j ∷ ns) m) (sym e) (contains_first k (j ∷ ns))
  | inr low ↦
      let e : min k (least (j ∷ ns)) ≡ least (j ∷ ns) = omega (arith, low) in
      subst (λ m. Contains (k ∷ j ∷ ns) m) (sym e) (contains_later k (j ∷ ns) (least (j ∷ ns)) (least_there (j ∷ ns) j (contains_first j ns)))
]

module _ (problem : Problem) (node : Node) (sound : IsSound problem node) (c : SymbolicConfig) (ask : Ask) (solution : GeneralSolution)
    (found : IsListedFor NoRigidName (scene_of node c) ask solution) (kid : Node) (applies : Applies node solution.bindings kid) where
  abbrev pub bound : ℕ → Tree
  bound = binding node solution.bindings

  pub label_known : (u : Tree) → Contains (label_trees node) u → (x : ℕ) → StandsIn (var x) u → (l : ℕ) × (level_of (variables_of node) x ≡ Some l)
  label_known u h x k =
      let b = leaf_meets (IsLeafUpTo NoRigidName node.m node.know (variables_of node) node.m) AnySymbol (label_tree_is problem node sound u h).level k in (b.0, b.1)

  pub kid_labels : label_trees kid ≡ map (substitute bound) (label_trees node)
  kid_labels = ap (filter_map label_tree) applies.labels ∙ trees_under (substitute bound) node.labels

  pub from_kid_label : (t : Tree) → Contains (label_trees kid) t → (u : Tree) × Contains (label_trees node) u × (t ≡ substitute bound u)
  from_kid_label t h = from_mapped (substitute bound) (label_trees node) t (subst (λ (ts : List Tree). Contains ts t) kid_labels h)

  -- what stands in a binding stands in a label of the kid, and the other way round
  stands_in_kid : (x l w : ℕ) → level_of (variables_of node) x ≡ Some l → StandsIn (var w) (bound x) → (t : Tree) × Contains (label_trees kid) t × StandsIn (var w) t
  stands_in_kid x l w e h =
      let u = any_at (λ t. StandsIn (var x) t) (label_trees node) (is_labelled node x l e) in (
        substitute bound u.0,
        subst (λ (ts : List Tree). Contains ts (substitute bound u.0)) (sym kid_labels) (mapped (substitute bound) (label_trees node) u.0 u.1),
        nested h (keeps_subterms (variables_to bound) u.2),
      )

  pub record IsBoundIn (w : ℕ) : Type 0 where
    pub x : ℕ
    pub l : ℕ
    pub level : level_of (variables_of node) x ≡ Some l
    pub stands : StandsIn (var w) (bound x)

  pub from_kid : (w k : ℕ) → level_of (variables_of kid) w ≡ Some k → IsBoundIn w
  from_kid w k e =
      let t = any_at (λ t. StandsIn (var w) t) (label_trees kid) (is_labelled kid w k e) in
      let u = from_kid_label t.0 t.1 in
      let x = variable_of_instance bound w u.0 (subst (λ v. StandsIn (var w) v) u.2 t.2) in
      let l = label_known u.0 u.1 x.0 x.1 in
      record { x = x.0; l = l.0; level = l.1; stands = x.2 }

  -- levels of new variables
  abbrev above : ℕ → List (ℕ × ℕ)
  above v = filter (λ (p : ℕ × ℕ). is_among v (occurrences (solution.bindings p.0))) (variables_of node)

  in_above : (x l v : ℕ) → level_of (variables_of node) x ≡ Some l → StandsIn (var v) (solution.bindings x) → Contains (map (λ (p : ℕ × ℕ). p.1) (above v)) l
  in_above x l v e h =
      mapped (λ (p : ℕ × ℕ). p.1) (above v) (x, l)
      (filtered (λ (p : ℕ × ℕ). is_among v (occurrences (solution.bindings p.0))) (variables_of node) (x, l) (level_is_listed (variables_of node) x l e)
      (among_true (occurrences (solution.bindings x)) v (in_occurrences v (solution.bindings x) h)))

  record IsLowest (v k : ℕ) : Type 0 where
    pub x : ℕ
    pub level : level_of (variables_of node) x ≡ Some k
    pub stands : StandsIn (var v) (solution.bindings x)

  from_above : (v k : ℕ) → Contains (map (λ (p : ℕ × ℕ). p.1) (above v)) k → IsLowest v k
  from_above v k h =
      let p = from_mapped (λ (p : ℕ × ℕ). p.1) (above v) k h in
      let f = from_filtered (λ (p : ℕ × ℕ). is_among v (occurrences (solution.bindings p.0))) (variables_of node) p.0 p.1 in
      record {
        x = p.0.0;
        level = listed_level node p.0 f.0 ∙ ap Some (sym p.2);
        stands = occurrence_stands (solution.bindings p.0.0) v (Contains-from_any (λ (i j : ℕ). eqb-true i j) v (occurrences (solution.bindings p.0.0)) f.1);
      }

  old_level : (x l w : ℕ) → level_of (variables_of node) x ≡ Some l → StandsIn (var w) (bound x) → (h : IsOld node c ask solution found w l) → level_of (variables_of kid) w ≡ Some h.k
  old_level x l w e st h =
      let j = level_out node w h.k h.level in
      let t = stands_in_kid x l w e st in
      level_in kid w j.0 h.k t.0 j.1
      (subst (λ (ls : List ℕ). slice_get ls j.0 ≡ Some h.k) (sym applies.levels) (in_front node.levels (new_levels node solution.bindings) j.0 h.k j.2)) t.1 t.2

  renumbered_level : (x l w : ℕ) → level_of (variables_of node) x ≡ Some l → StandsIn (var w) (bound x) → (h : IsRenumbered node c ask solution found x w)
      → level_of (variables_of kid) w ≡ Some (new_level node solution.bindings h.v)
  renumbered_level x l w e st h =
      let t = stands_in_kid x l w e st in
      let at : slice_get (new_levels node solution.bindings) h.i ≡ Some (new_level node solution.bindings h.v) =
      slice_get-map (new_level node solution.bindings) (news node c ask solution found) h.i ∙ ap (option_map (new_level node solution.bindings)) h.place in
      level_in kid w (length node.levels + h.i) (new_level node solution.bindings h.v) t.0 (omega (arith, h.number))
      (subst (λ (ls : List ℕ). slice_get ls (length node.levels + h.i) ≡ Some (new_level node solution.bindings h.v)) (sym applies.levels)
      (behind node.levels (new_levels node solution.bindings) h.i (length node.levels + h.i) refl ∙ at)) t.1 t.2

  -- what stands in a binding has at most the level of what is bound
  pub kid_level : (x l w : ℕ) → level_of (variables_of node) x ≡ Some l → StandsIn (var w) (bound x) → IsVariableUpTo (variables_of kid) l w
  kid_level x l w e st = elim (in_new_binding node c ask solution found x l w e st) [
    | inl h ↦ (h.k, old_level x l w e st h, h.low)
    | inr h ↦ (
      new_level node solution.bindings h.v,
      renumbered_level x l w e st h,
      least_below (map (λ (p : ℕ × ℕ). p.1) (above h.v)) l (in_above x l h.v e h.stands),
    )
  ]

  -- and it stands in one of its own level
  pub record HasLowest (w k : ℕ) : Type 0 where
    pub x : ℕ
    pub level : level_of (variables_of node) x ≡ Some k
    pub stands : StandsIn (var w) (bound x)

  pub lowest : (w k : ℕ) → level_of (variables_of kid) w ≡ Some k → HasLowest w k
  lowest w k e =
      let f = from_kid w k e in
      elim (in_new_binding node c ask solution found f.x f.l w f.level f.stands) [
        | inl h ↦
            let same : h.k ≡ k = same_level (variables_of kid) w h.k k (old_level f.x f.l w f.level f.stands h) e in
            record { x = w; level = h.level ∙ ap Some same; stands = subst (λ t. StandsIn (var w) t) (sym h.itself) itself }
        | inr h ↦
            let same : new_level node solution.bindings h.v ≡ k = same_level (variables_of kid) w (new_level node solution.bindings h.v) k (renumbered_level f.x f.l w f.level f.stands h) e in
            let low = from_above h.v (new_level node solution.bindings h.v) (least_there (map (λ (p : ℕ × ℕ). p.1) (above h.v)) f.l (in_above f.x f.l h.v f.level h.stands)) in
            record {
              x = low.x;
              level = low.level ∙ ap Some same;
              stands = subst (λ t. IsSubterm t (bound low.x)) h.becomes (keeps_subterms (variables_to (renumbered node c ask solution found)) low.stands);
            }
      ]

  -- a number that was given is the node's or no one's
  pub kid_none : (w : ℕ) → w ≤ length node.levels → level_of (variables_of node) w ≡ None → level_of (variables_of kid) w ≡ None
  kid_none w low none = elim (levels_cases (level_of (variables_of kid) w)) [
    | inl e ↦ e
    | inr e ↦ absurd (
        let f = from_kid w e.0 e.1 in
        elim (in_new_binding node c ask solution found f.x f.l w f.level f.stands) [
          | inl h ↦ let q : None ≡ Some h.k = sym none ∙ h.level in cc
          | inr h ↦ omega (arith, h.number, low)
        ])
  ]
