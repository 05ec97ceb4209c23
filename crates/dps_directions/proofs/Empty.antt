-- Nothing is listed exactly where no solution meets the ask.
use Rattle.std.proofs.Common.{◌≡◌, ℕ, ◌+◌, List, [], ◌∷◌, ◌++◌, map, Option, Some, None, if◌then◌else◌, refl, sym, ◌∙◌, ap, subst, Contains}
use Rattle.std.specs.Prelude.{is_some, All}
use Rattle.std.specs.List.{flat_map}
use Rattle.dps_terms.specs.declared.PublicName.TheVariants.{At}
use Rattle.dps_terms.specs.Tree.{public, var, rigid, Tree, leaf, StandsIn}
use Rattle.dps_terms.specs.Replace.{substitute}
use Rattle.dps_terms.specs.Kinds.{AnySymbol}
use Rattle.dps_terms.proofs.Building.{leaf_meets}
use Rattle.dps_unify.specs.Order.{level_of}
use Rattle.dps_unify.proofs.Trees.{in_leaf, substitute_itself}
use Rattle.dps_know.specs.Know.{compositions}
use Rattle.dps_know.proofs.Listing.{in_head, in_tail, in_none, in_left, in_right, mapped_contains}
use Rattle.dps_solver.specs.Levels.{IsGroundUpTo}
use Rattle.dps_solver.specs.Scene.{Disequation, Scene, Ask}
use Rattle.dps_solver.specs.Solutions.{identity, IsSolution, Meets, valued}
use Rattle.dps_solver.specs.Search.{GeneralSolution, Finds, bindings_of}
use Rattle.dps_directions.specs.Valid.{IsValid, Fits}
use Rattle.dps_directions.specs.Values.{AreTreesOver}
use Rattle.dps_directions.specs.Directions.{ListedMeet, EmptyIsNone, MeetingAreListed, HoldsRigidNamesOf, IsAssignment, IsInstance}
use Rattle.dps_directions.specs.Fresh.{HasNamesBelow, AreNamesBelow, own_names, OwnNamesSolve}
use Rattle.dps_directions.proofs.Invariant.{IsBuiltLeaf}
use Rattle.dps_directions.proofs.Steps.{IsOutcome, ListedAreOutcomes}
use Rattle.dps_directions.proofs.Valuations.{valuations_are_one}
use Rattle.dps_directions.proofs.Outcomes.{bindings_at, bindings_else, binding_at}
use Rattle.dps_directions.proofs.First.{older_of, ground_built}
use Rattle.dps_directions.proofs.Lowering.{same_var}
use Rattle.dps_directions.proofs.Respecting.{open_not_free}
use Rattle.dps_directions.proofs.Beginning.{all_in, in_flat}
use Rattle.dps_directions.proofs.Fresh.{named, respected_by_names, normal_by_names}
use Rattle.dps_directions.proofs.Highest.{all_above, names_below}

-- names that stand nowhere in a valid scene
module _ (names : ℕ → Type 0) (scene : Scene) (first : ℕ) (valid : IsValid names scene) (low : AreNamesBelow first scene.system) where
  abbrev own : ℕ → Tree
  own = own_names first scene.system

  own_at : (x l : ℕ) → level_of scene.system.levels x ≡ Some l → own x ≡ named first x
  own_at x l e = ap (λ (o : Option ℕ). if is_some o then leaf (public (At (first + x))) else leaf (var x)) e

  own_else : (x : ℕ) → level_of scene.system.levels x ≡ None → own x ≡ leaf (var x)
  own_else x e = ap (λ (o : Option ℕ). if is_some o then leaf (public (At (first + x))) else leaf (var x)) e

  apart : (x l y : ℕ) (d : Disequation) → level_of scene.system.levels x ≡ Some l → StandsIn (var y) (leaf (var x)) → Contains scene.system.disequations d
      → ¬ Contains d.free y
  apart x l y d e c there f =
      let same = same_var y x (in_leaf (var x) (leaf (var y)) c) in
      let none : None ≡ Some l = sym (valid.free d there y f) ∙ ap (level_of scene.system.levels) same ∙ e in cc

  unchanged : (t : Tree) → HasNamesBelow first t → HasNamesBelow first (substitute identity t)
  unchanged t h = subst (HasNamesBelow first) (sym (substitute_itself t)) h

  labels_low : (t : Tree) → Contains scene.system.labels t → HasNamesBelow first (substitute identity t)
  labels_low t c = unchanged t (all_in (HasNamesBelow first) scene.system.labels t low.labels c)

  recorded_low : (t : Tree) → Contains (compositions scene.system.know) t → HasNamesBelow first (substitute identity t)
  recorded_low t c = unchanged t (all_in (HasNamesBelow first) (compositions scene.system.know) t low.recorded c)

  pairs_low : (d : Disequation) (p : Tree × Tree) → Contains scene.system.disequations d → Contains d.pairs p
      → HasNamesBelow first (substitute identity p.0) × HasNamesBelow first (substitute identity p.1)
  pairs_low d p c k =
      let all = all_in (λ (x : Disequation). All (λ (q : Tree × Tree). HasNamesBelow first q.0 × HasNamesBelow first q.1) x.pairs)
      scene.system.disequations d low.disequations c in
      let h = all_in (λ (q : Tree × Tree). HasNamesBelow first q.0 × HasNamesBelow first q.1) d.pairs p all k in
      (unchanged p.0 h.0, unchanged p.1 h.1)

  pub own_solve : IsSolution names scene.system own
  own_solve = record {
    choice = record {
      trees = λ x l e. subst (IsGroundUpTo names scene.system.m scene.system.know l) (sym (own_at x l e)) tt;
      others = own_else;
    };
    normal = λ x l e. normal_by_names names scene valid first identity own own_at own_else (λ y h. refl) apart labels_low recorded_low pairs_low valid.consistent x l e;
    respects = respected_by_names names scene valid first identity own own_at own_else (λ y h. refl) apart labels_low recorded_low pairs_low valid.consistent;
  }

pub own_names_solve : (names : ℕ → Type 0) (scene : Scene) → OwnNamesSolve names scene
own_names_solve names scene = λ first valid low. own_solve names scene first valid low

-- a listed solution becomes one that meets the ask, with names for its variables
module _ (names : ℕ → Type 0) (scene : Scene) (ask : Ask) (outcomes : ListedAreOutcomes names scene ask) (meet : ListedMeet names scene ask)
    (valid : IsValid names scene) (fits : Fits scene ask) (list : List GeneralSolution) (moves : ℕ) (found : Finds scene ask list moves)
    (solution : GeneralSolution) (listed : Contains list solution) (holds : HoldsRigidNamesOf names scene solution) where
  o : IsOutcome scene ask solution
  o = outcomes list moves solution valid fits found listed

  abbrev z : ℕ → Tree
  z = bindings_of scene o.last

  abbrev pair_trees : Tree × Tree → List Tree
  pair_trees p = substitute z p.0 ∷ substitute z p.1 ∷ []

  abbrev disequation_trees : Disequation → List Tree
  disequation_trees d = flat_map pair_trees d.pairs

  abbrev label_trees : List Tree
  label_trees = map (substitute z) scene.system.labels

  abbrev recorded_trees : List Tree
  recorded_trees = map (substitute z) (compositions scene.system.know)

  abbrev unequal_trees : List Tree
  unequal_trees = flat_map disequation_trees scene.system.disequations

  abbrev judged : List Tree
  judged = label_trees ++ (recorded_trees ++ unequal_trees)

  abbrev top : ℕ
  top = all_above judged

  abbrev s : ℕ → Tree
  s x = if is_some (level_of scene.system.levels x) then substitute (named top) (z x) else leaf (var x)

  becomes : (x l : ℕ) → level_of scene.system.levels x ≡ Some l → s x ≡ substitute (named top) (z x)
  becomes x l e = ap (λ (q : Option ℕ). if is_some q then substitute (named top) (z x) else leaf (var x)) e

  others : (x : ℕ) → level_of scene.system.levels x ≡ None → s x ≡ leaf (var x)
  others x e = ap (λ (q : Option ℕ). if is_some q then substitute (named top) (z x) else leaf (var x)) e

  not_free : (x l y : ℕ) (d : Disequation) → level_of scene.system.levels x ≡ Some l → StandsIn (var y) (z x) → Contains scene.system.disequations d → ¬ Contains d.free y
  not_free x l y d e c there =
      let h = leaf_meets (IsBuiltLeaf scene o.last l) AnySymbol (o.kept.bindings x l e).leaves (subst (λ t. StandsIn (var y) t) (bindings_at scene o.last x l e) c) in
      open_not_free names scene ask o.last valid o.kept d y h.0 there h.1

  of_label : (t : Tree) → Contains scene.system.labels t → HasNamesBelow top (substitute z t)
  of_label t c =
      names_below judged (substitute z t)
      (in_left (substitute z t) label_trees (recorded_trees ++ unequal_trees) (mapped_contains (substitute z) scene.system.labels t c))

  of_recorded : (t : Tree) → Contains (compositions scene.system.know) t → HasNamesBelow top (substitute z t)
  of_recorded t c =
      names_below judged (substitute z t)
      (in_right (substitute z t) label_trees (recorded_trees ++ unequal_trees)
      (in_left (substitute z t) recorded_trees unequal_trees (mapped_contains (substitute z) (compositions scene.system.know) t c)))

  of_unequal : (t : Tree) (d : Disequation) (p : Tree × Tree) → Contains scene.system.disequations d → Contains d.pairs p → Contains (pair_trees p) t → HasNamesBelow top t
  of_unequal t d p c k h =
      names_below judged t
      (in_right t label_trees (recorded_trees ++ unequal_trees)
      (in_right t recorded_trees unequal_trees (in_flat disequation_trees scene.system.disequations d t c (in_flat pair_trees d.pairs p t k h))))

  of_pair : (d : Disequation) (p : Tree × Tree) → Contains scene.system.disequations d → Contains d.pairs p
      → HasNamesBelow top (substitute z p.0) × HasNamesBelow top (substitute z p.1)
  of_pair d p c k = (
    of_unequal (substitute z p.0) d p c k (in_head (substitute z p.0) (substitute z p.1 ∷ [])),
    of_unequal (substitute z p.1) d p c k (in_tail (substitute z p.1) (substitute z p.0) (substitute z p.1 ∷ []) (in_head (substitute z p.1) [])),
  )

  ground : (x l : ℕ) → level_of scene.system.levels x ≡ Some l → IsGroundUpTo names scene.system.m scene.system.know l (s x)
  ground x l e =
      let at = binding_at scene ask solution o x l e in
      let tree = ap (substitute (named top)) (bindings_at scene o.last x l e) in
      subst (IsGroundUpTo names scene.system.m scene.system.know l) (sym (becomes x l e ∙ tree))
      (ground_built scene o.last names l (named top) (o.last.trees x) (o.kept.bindings x l e).leaves (λ y c. tt)
      (λ k c. holds x l k e (subst (λ t. StandsIn (rigid k) t) (sym at) c)))

  over : AreTreesOver names scene.system [] s
  over = record { trees = ground }

  assigned : IsAssignment names scene solution (named top)
  assigned = record { bound = λ x l y e c. tt; asked = λ t y c k. tt }

  instance : IsInstance scene solution (named top) s
  instance = record {
    variables = λ x l e.
        becomes x l e ∙ ap (substitute (named top)) (bindings_at scene o.last x l e ∙ sym (binding_at scene ask solution o x l e));
    others = others;
  }

  pub solved_by_names : (s : ℕ → Tree) × IsSolution names scene.system s × Meets scene ask s
  solved_by_names =
      let v = valuations_are_one names scene [] s (older_of names scene valid) over in
      let h = meet list moves solution (named top) s (valued v.0 (named top)) v.0 valid fits found listed holds assigned instance v.1 (λ y k. refl) in (
        s,
        record {
          choice = h.0;
          normal = λ x l e. normal_by_names names scene valid top z s becomes others (λ y k. bindings_else scene o.last y k) not_free of_label of_recorded of_pair o.respects x l e;
          respects = respected_by_names names scene valid top z s becomes others (λ y k. bindings_else scene o.last y k) not_free of_label of_recorded of_pair o.respects;
        },
        record { values = v.0; valuation = v.1; eta = λ x. substitute (valued v.0 (named top)) (solution.theta x); trees = map (substitute (named top)) solution.answers; meets = h.1 },
      )

none_listed : (list : List GeneralSolution) → ((q : GeneralSolution) → ¬ Contains list q) → list ≡ []
none_listed [] h = refl
none_listed (q ∷ qs) h = absurd (h q (in_head q qs))

pub empty_is_none : (names : ℕ → Type 0) (scene : Scene) (ask : Ask) → ListedAreOutcomes names scene ask → ListedMeet names scene ask → MeetingAreListed names scene ask
    → EmptyIsNone names scene ask
empty_is_none names scene ask outcomes meet meeting = λ list moves valid fits found holds. (
  λ e s solves meets.
      let l = meeting list moves s valid fits found solves meets in in_none l.solution (subst (λ q. Contains q l.solution) e l.listed),
  λ never. none_listed list (λ q c.
      let h = solved_by_names names scene ask outcomes meet valid fits list moves found q c (holds q c) in never h.0 h.1 h.2),
)
