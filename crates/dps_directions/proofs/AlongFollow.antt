-- A solution goes along where the first target's tree becomes a variable.
use Rattle.std.proofs.Common.{◌≡◌, ℕ, ◌≤◌, List, ◌∷◌, inl, inr, Some, refl, sym, ◌∙◌, ap, arith, subst, Contains}
use Rattle.std.specs.Prelude.{◌≢◌}
use Rattle.dps_terms.specs.Tree.{var, Tree, leaf}
use Rattle.dps_terms.specs.Replace.{substitute, put_entries}
use Rattle.dps_terms.specs.Bindings.{image}
use Rattle.dps_unify.specs.Order.{level_of}
use Rattle.dps_unify.proofs.Bound.{single}
use Rattle.dps_solver.specs.Levels.{IsVariableUpTo, IsGroundUpTo, AnyRigidName}
use Rattle.dps_solver.specs.Scene.{Scene, Ask}
use Rattle.dps_solver.specs.declared.scene.Target.{Target}
use Rattle.dps_solver.specs.Search.{Branch, with_tree}
use Rattle.dps_solver.proofs.Bindings.{here, elsewhere}
use Rattle.dps_directions.proofs.Invariant.{IsFree, IsOpen, IsKept}
use Rattle.dps_directions.proofs.Course.{Course, IsInTrees, in_trees_or_not, GoesWith, GoesAlong, outside, same_tree, trees_after, value_of_variable}
use Rattle.dps_directions.proofs.Valuations.{ground_above}
use Rattle.dps_directions.proofs.Following.{same_number, first_in, rest_in, sought_not_free, w_free, open_before_follow}
use Rattle.dps_directions.proofs.Lowering.{with_one, with_here, with_else}

module _ (names : ℕ → Type 0) (scene : Scene) (ask : Ask) (course : Course names scene ask) (b : Branch) (kept : IsKept scene ask b)
    (eta psi : ℕ → Tree) (goes : GoesWith names scene ask course b eta psi) (z : Target) (rest : List Target) (is : b.targets ≡ z ∷ rest) (w : ℕ)
    (term : substitute b.theta z.term ≡ leaf (var w)) (up : IsVariableUpTo b.levels z.level w)
    (below_m : (x l : ℕ) → level_of scene.system.levels x ≡ Some l → l ≤ scene.system.m) where
  abbrev next : Branch
  next = with_tree b z rest (leaf (var w))

  abbrev p : ℕ → Tree
  p = image (single z.name (leaf (var w)))

  abbrev InTrees : ℕ → Type 0
  InTrees y = IsInTrees course.followed b y

  first : Contains b.targets z
  first = first_in scene ask b z rest kept is

  is_free : IsFree b w up.0
  is_free = w_free scene ask b z rest kept is w term up below_m

  was_open : (y l : ℕ) → IsOpen next y l → IsOpen b y l
  was_open y l o = open_before_follow scene ask b z rest kept is w term up below_m y l o

  value_is : put_entries course.g (psi z.name) ≡ eta w
  value_is = value_of_variable names scene ask course b kept eta psi goes z w first term

  p_at : (after : ℕ → Tree) → (InTrees z.name → after w ≡ psi z.name) → ((y : ℕ) → InTrees y → y ≢ z.name → after y ≡ psi y)
      → (y : ℕ) → InTrees y → substitute after (p y) ≡ psi y
  p_at after h k y i = elim (same_number y z.name) [
    | inl e ↦
        subst (λ n. substitute after (p n) ≡ psi n) (sym e)
        (ap (substitute after) (here z.name (leaf (var w))) ∙ h (subst (IsInTrees course.followed b) e i))
    | inr d ↦ ap (substitute after) (elsewhere z.name (leaf (var w)) y d) ∙ k y i d
  ]

  -- the trees stay where the variable has the target's
  stays : (InTrees z.name → psi w ≡ psi z.name) → GoesWith names scene ask course next eta psi
  stays same = record {
    trees = trees_after names scene ask course b kept eta psi goes p psi (p_at psi same (λ y i d. refl));
    levels = λ y l o. goes.levels y l (was_open y l o);
    free = goes.free;
    sought = λ y c. goes.sought y (rest_in scene ask b z rest kept is y c);
    values = goes.values;
    agrees = goes.agrees;
  }

  -- else it stands in no tree, and gets the target's
  abbrev moved : ℕ → Tree
  moved = with_one w (psi z.name) psi

  moved_here : (y : ℕ) → w ≡ y → moved y ≡ psi z.name
  moved_here y e = with_here w (psi z.name) psi y e

  moved_else : (y : ℕ) → w ≢ y → moved y ≡ psi y
  moved_else y d = with_else w (psi z.name) psi y d

  ground : (y l : ℕ) → ¬ InTrees w → IsOpen b y l → IsGroundUpTo AnyRigidName scene.system.m scene.system.know l (moved y)
  ground y l never o = elim (same_number w y) [
    | inl e ↦
        let high = outside names scene ask course b kept w l (subst (λ n. IsOpen b n l) (sym e) o) never in
        let low = kept.up_to_m z.name z.level (inl (z, first, refl, refl)) in
        subst (IsGroundUpTo AnyRigidName scene.system.m scene.system.know l) (sym (moved_here y e))
        (ground_above AnyRigidName scene.system.m scene.system.know z.level l (psi z.name) (omega (arith, high, low))
        (goes.levels z.name z.level (inl (z, first, refl, refl))))
    | inr d ↦ subst (IsGroundUpTo AnyRigidName scene.system.m scene.system.know l) (sym (moved_else y d)) (goes.levels y l o)
  ]

  free_now : (y l : ℕ) → IsFree b y l → put_entries course.g (moved y) ≡ eta y
  free_now y l f = elim (same_number w y) [
    | inl e ↦ ap (put_entries course.g) (moved_here y e) ∙ value_is ∙ ap eta e
    | inr d ↦ ap (put_entries course.g) (moved_else y d) ∙ goes.free y l f
  ]

  other_name : (y : Target) → Contains rest y → w ≢ y.name
  other_name y c e =
      sought_not_free scene ask b z rest kept is y up.0 (rest_in scene ask b z rest kept is y c) (subst (λ n. IsFree b n up.0) e is_free)

  moves : ¬ InTrees w → GoesWith names scene ask course next eta moved
  moves never = record {
    trees = trees_after names scene ask course b kept eta psi goes p moved
        (p_at moved (λ i. moved_here w refl) (λ y i d. moved_else y (λ e. never (subst (IsInTrees course.followed b) (sym e) i))));
    levels = λ y l o. ground y l never (was_open y l o);
    free = free_now;
    sought = λ y c. ap (put_entries course.g) (moved_else y.name (other_name y c)) ∙ goes.sought y (rest_in scene ask b z rest kept is y c);
    values = goes.values;
    agrees = goes.agrees;
  }

  pub along_follow : GoesAlong names scene ask course next
  along_follow = elim (in_trees_or_not course.followed b w) [
    | inl i ↦ (eta, psi, stays (λ j. same_tree names scene ask course b kept eta psi goes w z.name i j (goes.free w up.0 is_free ∙ sym value_is)))
    | inr never ↦ (eta, moved, moves never)
  ]
