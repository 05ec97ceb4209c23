-- A solution goes along where a variable becomes the first target's.
use Rattle.std.proofs.Common.{◌≡◌, ℕ, ◌≤◌, List, ◌∷◌, inl, inr, Some, refl, sym, ◌∙◌, ap, arith, subst, Contains}
use Rattle.std.specs.Prelude.{◌≢◌}
use Rattle.dps_terms.specs.Tree.{var, Tree, leaf, StandsIn}
use Rattle.dps_terms.specs.Replace.{substitute, put_entries}
use Rattle.dps_terms.specs.Bindings.{image}
use Rattle.dps_unify.specs.Order.{level_of}
use Rattle.dps_unify.proofs.Bound.{single}
use Rattle.dps_unify.proofs.Trees.{substitute_in_turn, substitute_agrees}
use Rattle.dps_know.proofs.Listing.{in_cons}
use Rattle.dps_solver.specs.Levels.{IsVariableUpTo}
use Rattle.dps_solver.specs.Scene.{Scene, Ask}
use Rattle.dps_solver.specs.declared.scene.Target.{Target}
use Rattle.dps_solver.specs.Search.{Branch, lowered}
use Rattle.dps_solver.proofs.Bindings.{here, elsewhere}
use Rattle.dps_directions.proofs.Invariant.{IsFree, IsOpen, sought_for, IsKept}
use Rattle.dps_directions.proofs.Course.{Course, IsInTrees, in_trees_or_not, GoesWith, GoesAlong, open_in, outside, same_tree, trees_after, value_of_variable}
use Rattle.dps_directions.proofs.Following.{same_number, first_in, rest_in}
use Rattle.dps_directions.proofs.Lowering.{with_one, with_here, with_else, z_new, not_z, not_w_pending, open_before_lower, free_before_lower, theta_z, scene_not_z}

module _ (names : ℕ → Type 0) (scene : Scene) (ask : Ask) (course : Course names scene ask) (b : Branch) (kept : IsKept scene ask b)
    (eta psi : ℕ → Tree) (goes : GoesWith names scene ask course b eta psi) (z : Target) (rest : List Target) (is : b.targets ≡ z ∷ rest) (w : ℕ)
    (term : substitute b.theta z.term ≡ leaf (var w)) (high : ¬ IsVariableUpTo b.levels z.level w)
    (below_m : (x l : ℕ) → level_of scene.system.levels x ≡ Some l → l ≤ scene.system.m) where
  abbrev next : Branch
  next = lowered b z rest w

  abbrev q : ℕ → Tree
  q = image (single w (leaf (var z.name)))

  abbrev after : ℕ → Tree
  after = with_one z.name (eta w) eta

  first : Contains b.targets z
  first = first_in scene ask b z rest kept is

  value_is : put_entries course.g (psi z.name) ≡ eta w
  value_is = value_of_variable names scene ask course b kept eta psi goes z w first term

  after_z : after z.name ≡ eta w
  after_z = with_here z.name (eta w) eta z.name refl

  after_else : (y : ℕ) → y ≢ z.name → after y ≡ eta y
  after_else y d = with_else z.name (eta w) eta y (λ e. d (sym e))

  q_w : q w ≡ leaf (var z.name)
  q_w = here w (leaf (var z.name))

  -- where the variable stands in trees, it has a greater level, and the target's name stands in trees too
  greater : (k : ℕ) → IsFree b w k → IsInTrees course.followed b z.name
  greater k f = elim (in_trees_or_not course.followed b z.name) [
    | inl i ↦ i
    | inr never ↦
        let is_m = outside names scene ask course b kept z.name z.level (inl (z, first, refl, refl)) never in
        let up = kept.up_to_m w k (inr f) in
        absurd (high (k, f.0, omega (arith, is_m, up)))
  ]

  w_free : (k : ℕ) → IsOpen b w k → IsFree b w k
  w_free k (inr f) = f
  w_free k (inl h) = elim (in_cons h.0 z rest (subst (λ ts. Contains ts h.0) is h.1)) [
    | inl e ↦ absurd (not_z scene ask b z rest kept is w term high below_m (sym h.2 ∙ ap (λ (t : Target). t.name) e))
    | inr c ↦ absurd (not_w_pending scene ask b z rest kept is w term high below_m h.0 c h.2)
  ]

  same : IsInTrees course.followed b w → psi z.name ≡ psi w
  same i =
      let o = open_in names scene ask course b kept w i in
      let f = w_free o.0 o.1 in
      same_tree names scene ask course b kept eta psi goes z.name w (greater o.0 f) i (value_is ∙ sym (goes.free w o.0 f))

  q_at : (y : ℕ) → IsInTrees course.followed b y → substitute psi (q y) ≡ psi y
  q_at y i = elim (same_number y w) [
    | inl e ↦ subst (λ n. substitute psi (q n) ≡ psi n) (sym e) (ap (substitute psi) q_w ∙ same (subst (IsInTrees course.followed b) e i))
    | inr d ↦ ap (substitute psi) (elsewhere w (leaf (var z.name)) y d)
  ]

  at_variable : (v : ℕ) → v ≢ z.name → substitute after (q v) ≡ eta v
  at_variable v d = elim (same_number v w) [
    | inl e ↦ subst (λ n. substitute after (q n) ≡ eta n) (sym e) (ap (substitute after) q_w ∙ after_z)
    | inr h ↦ ap (substitute after) (elsewhere w (leaf (var z.name)) v h) ∙ after_else v d
  ]

  values_now : (x : ℕ) → substitute after (next.theta x) ≡ after x
  values_now x = elim (same_number x z.name) [
    | inl e ↦
        subst (λ n. substitute after (next.theta n) ≡ after n) (sym e)
        (ap (substitute after) (theta_z scene ask b z rest kept is w term high below_m))
    | inr d ↦
        substitute_in_turn after q (b.theta x)
        ∙ substitute_agrees (λ v. substitute after (q v)) eta (b.theta x)
        (λ v c. at_variable v (λ e. kept.apart z x first d (subst (λ n. StandsIn (var n) (b.theta x)) e c)))
        ∙ goes.values x ∙ sym (after_else x d)
  ]

  free_now : (y l : ℕ) → IsFree next y l → put_entries course.g (psi y) ≡ after y
  free_now y l f = elim (same_number y z.name) [
    | inl e ↦ subst (λ n. put_entries course.g (psi n) ≡ after n) (sym e) (value_is ∙ sym after_z)
    | inr d ↦ goes.free y l (free_before_lower scene ask b z rest kept is w term high below_m y l f d) ∙ sym (after_else y d)
  ]

  sought_now : (y : Target) → Contains rest y → put_entries course.g (psi y.name) ≡ substitute after y.term
  sought_now y c =
      let there = rest_in scene ask b z rest kept is y c in
      let new = z_new scene ask b z rest kept is w term high below_m in
      goes.sought y there
      ∙ substitute_agrees eta after y.term
      (λ n h. sym (after_else n (λ e. new.terms y.term (sought_for there) (subst (λ v. StandsIn (var v) y.term) e h))))

  pub along_lower : GoesAlong names scene ask course next
  along_lower = (
    after,
    psi,
    record {
      trees = trees_after names scene ask course b kept eta psi goes q psi q_at;
      levels = λ y l o. goes.levels y l (open_before_lower scene ask b z rest kept is w term high below_m y l o);
      free = free_now;
      sought = sought_now;
      values = values_now;
      agrees = λ x l e. after_else x (scene_not_z scene ask b z rest kept is w term high below_m x l e) ∙ goes.agrees x l e;
    },
  )
