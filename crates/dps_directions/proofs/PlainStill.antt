-- Where an ask holds no variable of a rule, a branch that binds no variable of the scene binds nothing.
use Rattle.std.proofs.Common.{◌≡◌, ℕ, ◌≤◌, List, ◌∷◌, inl, inr, Some, refl, sym, ◌∙◌, ap, subst, Contains}
use Rattle.dps_terms.specs.Tree.{var, entry, Tree, leaf, StandsIn, itself}
use Rattle.dps_terms.specs.Replace.{substitute}
use Rattle.dps_terms.specs.Views.{arguments}
use Rattle.dps_terms.specs.Bindings.{bound, image}
use Rattle.dps_terms.specs.Kinds.{IsBuiltOf, AnySymbol}
use Rattle.dps_terms.proofs.Building.{leaf_meets}
use Rattle.dps_unify.specs.Order.{level_of}
use Rattle.dps_unify.specs.Unifier.{IsMgu, IsVariableOf}
use Rattle.dps_unify.proofs.Bound.{single, cases_option, image_none}
use Rattle.dps_unify.proofs.Trees.{substitute_stays}
use Rattle.dps_know.proofs.Listing.{in_append}
use Rattle.dps_solver.specs.Levels.{IsVariableUpTo}
use Rattle.dps_solver.specs.Scene.{Scene, Ask}
use Rattle.dps_solver.specs.declared.scene.Target.{Target}
use Rattle.dps_solver.specs.Solutions.{identity}
use Rattle.dps_solver.specs.Search.{GeneralSolution, IsPlain, Branch, Way, ways}
use Rattle.dps_solver.specs.Search.{Leads, follows, lowers, uses, composes, with_tree, with_bound, lowered, composed, unbound, entry_equation, AreNewlyBound}
use Rattle.dps_directions.specs.Valid.{IsValid, Fits, IsValueLeaf}
use Rattle.dps_directions.specs.Shapes.{HoldsOnly, IsOfScene, HasNoRuleVariable}
use Rattle.dps_directions.proofs.Invariant.{IsBuiltLeaf, IsTermOf, value_of, sought_for, asked_for, left_of, right_of, IsKept}
use Rattle.dps_directions.proofs.Steps.{IsOutcome}
use Rattle.dps_directions.proofs.Following.{first_in, rest_in, level_below_m}
use Rattle.dps_directions.proofs.Lowering.{same_var, not_z, theta_w, scene_not_z, becomes as lower_becomes}
use Rattle.dps_directions.proofs.Composing.{kids, is_kid, stands_in_whole}
use Rattle.dps_directions.proofs.NewlyBound.{new_targets, is_new, after_all, bound_is}
use Rattle.dps_directions.proofs.Unifying.{back}
use Rattle.dps_directions.proofs.Ways.{inside, used_entry}
use Rattle.dps_directions.proofs.Beginning.{all_in, some_level, inside as start_inside}
use Rattle.dps_directions.proofs.Outcomes.{theta_at, unbound_at, is_free}
use Rattle.dps_directions.proofs.Respecting.{unmapped}

abbrev pub BindsNone : Scene → (ℕ → Tree) → Type 0
BindsNone scene theta = (x l : ℕ) → level_of scene.system.levels x ≡ Some l → theta x ≡ leaf (var x)

-- nothing is bound, and nothing but the scene's variables stands in what is sought
pub record IsStill (scene : Scene) (b : Branch) : Type 0 where
  pub theta : (x : ℕ) → b.theta x ≡ leaf (var x)
  pub levels : (y l : ℕ) → level_of b.levels y ≡ Some l → IsOfScene scene y
  pub targets : (z : Target) → Contains b.targets z → HoldsOnly (IsOfScene scene) z.term

abbrev pub StaysStill : Scene → Branch → Type 0
StaysStill scene b = BindsNone scene b.theta → IsStill scene b

module _ (names : ℕ → Type 0) (scene : Scene) (ask : Ask) (valid : IsValid names scene) (fits : Fits scene ask) (over : HasNoRuleVariable scene ask) where
  term_over : (b : Branch) → IsStill scene b → (t : Tree) → IsTermOf scene ask b t → HoldsOnly (IsOfScene scene) t
  term_over b still t (value_of k) x h =
      some_level (level_of scene.system.levels x)
      (leaf_meets (IsValueLeaf scene.system) AnySymbol (all_in (λ v. IsBuiltOf (IsValueLeaf scene.system) AnySymbol v) scene.values t valid.values k) h)
  term_over b still t (sought_for {z = y} k) x h = still.targets y k x h
  term_over b still t (asked_for {z = y} k) x h = over.targets y k x h
  term_over b still t (left_of {p = p} k) x h = (over.equations p k).0 x h
  term_over b still t (right_of {p = p} k) x h = (over.equations p k).1 x h

  unmoved : (b : Branch) → IsStill scene b → (t : Tree) → substitute b.theta t ≡ t
  unmoved b still t = substitute_stays b.theta t (λ n k. still.theta n)

  -- more is put for variables in values
  module _ (b : Branch) (still : IsStill scene b) (u : List (ℕ × Tree)) (pairs : List (Tree × Tree)) (mgu : IsMgu b.levels pairs u)
      (within : (n : ℕ) → IsVariableOf pairs n → (t : Tree) × IsTermOf scene ask b t × StandsIn (var n) (substitute b.theta t))
      (ps : List (ℕ × ℕ)) (newly : AreNewlyBound b.levels b.theta (λ x. substitute (image u) (b.theta x)) ps)
      (none : BindsNone scene (λ x. substitute (image u) (b.theta x))) where
    image_still : (n : ℕ) → image u n ≡ leaf (var n)
    image_still n = elim (cases_option (bound u n)) [
      | inl e ↦ image_none u n e
      | inr e ↦
          let t = within n (mgu.binds n e.0 e.1) in
          let of_scene = term_over b still t.0 t.1 n (subst (λ v. StandsIn (var n) v) (unmoved b still t.0) t.2) in
          sym (ap (substitute (image u)) (still.theta n)) ∙ none n of_scene.0 of_scene.1
    ]

    theta_still : (x : ℕ) → substitute (image u) (b.theta x) ≡ leaf (var x)
    theta_still x = ap (substitute (image u)) (still.theta x) ∙ image_still x

    unified_still : (base : ℕ → Tree) (left : List Target) → ((y : Target) → Contains left y → Contains b.targets y)
        → IsStill scene (after_all (λ x. substitute (image u) (b.theta x)) ps
        (record b { theta = (λ x. substitute (image u) (b.theta x)); trees = (λ x. substitute base (b.trees x)); targets = left }))
    unified_still base left left_in = record {
      theta = theta_still;
      levels = still.levels;
      targets = λ y c. elim (in_append y left (new_targets (λ x. substitute (image u) (b.theta x)) ps) c) [
        | inl k ↦ still.targets y (left_in y k)
        | inr k ↦ absurd (let n = is_new (λ x. substitute (image u) (b.theta x)) ps y k in n.composed y.name (n.term ∙ theta_still y.name))
      ];
    }

  -- the ways
  module _ (b : Branch) (z : Target) (rest : List Target) (kept : IsKept scene ask b) (is : b.targets ≡ z ∷ rest) (has : StaysStill scene b) where
    below_m : (x l : ℕ) → level_of scene.system.levels x ≡ Some l → l ≤ scene.system.m
    below_m = level_below_m names scene valid

    first : Contains b.targets z
    first = first_in scene ask b z rest kept is

    follow_still : (t : Tree) → StaysStill scene (with_tree b z rest t)
    follow_still t none =
        let still = has none in
        record { theta = still.theta; levels = still.levels; targets = λ y c. still.targets y (rest_in scene ask b z rest kept is y c) }

    compose_still : StaysStill scene (composed b z rest (substitute b.theta z.term))
    compose_still none =
        let still = has none in
        let t = substitute b.theta z.term in
        record {
          theta = still.theta;
          levels = still.levels;
          targets = λ y c. elim (in_append y (kids z b.next (arguments t)) rest c) [
            | inl k ↦ λ x h.
                let i = is_kid z b.next (arguments t) identity y k in
                still.targets z first x (subst (λ v. StandsIn (var x) v) (unmoved b still z.term) (stands_in_whole (var x) t y.term i.among h))
            | inr k ↦ still.targets y (rest_in scene ask b z rest kept is y k)
          ];
        }

    lower_still : (w : ℕ) → substitute b.theta z.term ≡ leaf (var w) → ¬ IsVariableUpTo b.levels z.level w → StaysStill scene (lowered b z rest w)
    lower_still w term high none =
        let before : BindsNone scene b.theta = λ x l e. elim (lower_becomes scene ask b z rest kept is w term high below_m x x (none x l e)) [
          | inl h ↦ absurd (scene_not_z scene ask b z rest kept is w term high below_m x l e h.1)
          | inr h ↦ h
        ] in
        let still = has before in
        let at = sym (unmoved b still z.term) ∙ term in
        let of_scene = still.targets z first w (subst (λ t. StandsIn (var w) t) (sym at) itself) in
        absurd (not_z scene ask b z rest kept is w term high below_m
        (same_var w z.name (sym (none w of_scene.0 of_scene.1) ∙ theta_w scene ask b z rest kept is w term high below_m)))

    pub way_still : (c : Branch) {w : Way} → Contains (ways scene.system z.level (substitute b.theta z.term)) w → Leads scene b z rest w c → StaysStill scene c
    way_still c among (follows {w = w} e h q) = subst (StaysStill scene) (sym q) (follow_still (leaf (var w)))
    way_still c among (lowers {w = w} e h q) = subst (StaysStill scene) (sym q) (lower_still w e h)
    way_still c among (composes q) = subst (StaysStill scene) (sym q) compose_still
    way_still c among (uses {i = i} {u = u} {theta = theta} {bound = ps} mgu e newly q) =
        let there = used_entry scene.system z.level i (substitute b.theta z.term) among in
        let known = inside scene ask b z rest kept is i u mgu there below_m in
        let newly_now = subst (λ f. AreNewlyBound b.levels b.theta f ps) e newly in
        let to = q ∙ ap (λ f. with_bound ps (record (with_tree b z rest (leaf (entry i))) { theta = f })) e ∙ bound_is ps
        (record (with_tree b z rest (leaf (entry i))) { theta = (λ x. substitute (image u) (b.theta x)) }) in
        subst (StaysStill scene) (sym to)
        (λ none.
        let still = has (λ x l k. back scene ask b kept u (entry_equation scene b z i) mgu known x (none x l k)) in
        unified_still b still u (entry_equation scene b z i) mgu known ps newly_now none (image (single z.name (leaf (entry i)))) rest
        (λ y k. rest_in scene ask b z rest kept is y k))

  -- the start
  unbound_still : IsStill scene (unbound scene ask)
  unbound_still = record { theta = λ x. refl; levels = λ y l e. (l, e); targets = over.targets }

  pub start_still : (u : List (ℕ × Tree)) (ps : List (ℕ × ℕ)) → IsMgu scene.system.levels ask.equations u → AreNewlyBound scene.system.levels identity (image u) ps
      → StaysStill scene (with_bound ps (record (unbound scene ask) { theta = image u }))
  start_still u ps mgu newly =
      subst (StaysStill scene) (sym (bound_is ps (record (unbound scene ask) { theta = image u })))
      (λ none. unified_still (unbound scene ask) unbound_still u ask.equations mgu (start_inside names scene ask valid fits) ps newly none identity ask.targets (λ y k. k))

-- a plain solution of such an ask
module _ (scene : Scene) (ask : Ask) (solution : GeneralSolution) (o : IsOutcome scene ask solution) (stays : StaysStill scene o.last) (plain : IsPlain solution) where
  pub still : IsStill scene o.last
  still = stays (λ x l e. sym (theta_at scene ask solution o x) ∙ unbound_at scene ask solution o plain x l e)

  pub binds_nothing : (x : ℕ) → solution.theta x ≡ leaf (var x)
  binds_nothing x = theta_at scene ask solution o x ∙ still.theta x

  pub answers_over : (t : Tree) → Contains solution.answers t → HoldsOnly (IsOfScene scene) t
  answers_over t c y h =
      let z = unmapped (λ (q : Target). o.last.trees q.name) ask.targets t (subst (λ ts. Contains ts t) (ap (λ (q : GeneralSolution). q.answers) o.is) c) in
      let there = subst (λ v. StandsIn (var y) v) z.2 h in
      let open' = leaf_meets (IsBuiltLeaf scene o.last z.0.level) AnySymbol (o.kept.answers z.0 z.1).leaves there in
      still.levels y open'.0 (is_free scene ask solution o y open'.0 open'.1).0
