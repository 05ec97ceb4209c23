-- A solution that is followed to a listed one is an instance of it.
use Rattle.std.proofs.Common.{◌≡◌, ℕ, List, [], ◌⊎◌, inl, inr, Some, refl, sym, ◌∙◌, ap, subst, Contains}
use Rattle.dps_terms.specs.declared.PublicName.TheVariants.{At}
use Rattle.dps_terms.specs.Tree.{public, var, Tree, leaf, app, StandsIn, IsSubterm}
use Rattle.dps_terms.specs.Replace.{substitute}
use Rattle.dps_terms.specs.Kinds.{AnySymbol}
use Rattle.dps_terms.proofs.Building.{built_subterm}
use Rattle.dps_terms.proofs.Subterms.{nested}
use Rattle.dps_unify.specs.Order.{level_of}
use Rattle.dps_unify.proofs.Trees.{in_leaf, substitute_agrees}
use Rattle.dps_know.specs.Know.{compositions}
use Rattle.dps_solver.specs.Levels.{IsLeafUpTo, IsTreeUpTo, IsGroundUpTo, AnyRigidName}
use Rattle.dps_solver.specs.Scene.{Scene, Ask}
use Rattle.dps_solver.specs.Solutions.{IsNormalUnder}
use Rattle.dps_solver.specs.Search.{GeneralSolution, Branch}
use Rattle.dps_directions.specs.Valid.{IsValid, IsComposed}
use Rattle.dps_directions.specs.Directions.{IsListed}
use Rattle.dps_directions.proofs.Course.{Course, IsInTrees, in_trees_or_not, open_in, part}
use Rattle.dps_directions.proofs.Steps.{IsReached}
use Rattle.dps_directions.proofs.Valuations.{ground_above}
use Rattle.dps_directions.proofs.Outcomes.{binding_at}
use Rattle.dps_directions.proofs.Respecting.{pick, pick_there, unmapped}
use Rattle.dps_directions.proofs.Beginning.{all_in}

module _ (names : ℕ → Type 0) (scene : Scene) (ask : Ask) (valid : IsValid names scene) (course : Course names scene ask)
    (list : List GeneralSolution) (r : IsReached names scene ask course list) where
  abbrev last : Branch
  last = r.outcome.last

  abbrev name : Tree
  name = leaf (public (At 0))

  abbrev pub a : ℕ → Tree
  a y = pick (in_trees_or_not course.followed last y) (r.psi y) name

  a_there : (y : ℕ) → IsInTrees course.followed last y → a y ≡ r.psi y
  a_there y h = pick_there (in_trees_or_not course.followed last y) (r.psi y) name h

  inside : (y : ℕ) (h : IsInTrees course.followed last y) → IsSubterm (r.psi y) (course.last h.0)
  inside y h = part names scene ask course last r.outcome.kept r.eta r.psi r.goes y h

  binding : (x l : ℕ) → level_of scene.system.levels x ≡ Some l → r.solution.bindings x ≡ last.trees x
  binding x l e = binding_at scene ask r.solution r.outcome x l e

  bound : (x l y : ℕ) → level_of scene.system.levels x ≡ Some l → StandsIn (var y) (r.solution.bindings x) → IsGroundUpTo names scene.system.m scene.system.know l (a y)
  bound x l y e c =
      let there = subst (λ t. StandsIn (var y) t) (binding x l e) c in
      let h : IsInTrees course.followed last y = (x, course.among x l e, there) in
      let sub : IsSubterm (r.psi y) (course.s x) = subst (λ t. IsSubterm (r.psi y) t) (course.ends x l e) (inside y h) in
      subst (IsGroundUpTo names scene.system.m scene.system.know l) (sym (a_there y h))
      (built_subterm (IsLeafUpTo names scene.system.m scene.system.know [] l) AnySymbol (course.solution.choice.trees x l e) sub)

  in_level : (y : ℕ) → IsInTrees course.followed last y → IsGroundUpTo AnyRigidName scene.system.m scene.system.know scene.system.m (r.psi y)
  in_level y h =
      let f = open_in names scene ask course last r.outcome.kept y h in
      ground_above AnyRigidName scene.system.m scene.system.know f.0 scene.system.m (r.psi y) (r.outcome.kept.up_to_m y f.0 f.1) (r.goes.levels y f.0 f.1)

  asked : (t : Tree) (y : ℕ) → Contains r.solution.answers t → StandsIn (var y) t → IsGroundUpTo AnyRigidName scene.system.m scene.system.know scene.system.m (a y)
  asked t y c h = at (in_trees_or_not course.followed last y)
    where
      at : (q : IsInTrees course.followed last y ⊎ ¬ IsInTrees course.followed last y) → IsGroundUpTo AnyRigidName scene.system.m scene.system.know scene.system.m (pick q (r.psi y) name)
      at (inl k) = in_level y k
      at (inr k) = tt

  composed_stays : (t : Tree) → IsComposed t → ¬ IsSubterm (substitute course.s t) name
  composed_stays (leaf x) c h = c
  composed_stays (app f ts) c h = let e = in_leaf (public (At 0)) (substitute course.s (app f ts)) h in cc

  name_normal : IsNormalUnder course.s scene.system name
  name_normal v c h =
      let o = unmapped (substitute course.s) (compositions scene.system.know) v c in
      composed_stays o.0 (all_in (λ (t : Tree). IsComposed t
      × IsTreeUpTo AnyRigidName scene.system.m scene.system.know scene.system.levels scene.system.m t)
      (compositions scene.system.know) o.0 valid.recorded o.1).0 (subst (λ t. IsSubterm t name) o.2 h)

  normal : (y : ℕ) → IsNormalUnder course.s scene.system (a y)
  normal y = at (in_trees_or_not course.followed last y)
    where
      at : (q : IsInTrees course.followed last y ⊎ ¬ IsInTrees course.followed last y) → IsNormalUnder course.s scene.system (pick q (r.psi y) name)
      at (inl k) = λ v c h. course.normal k.0 k.1 v c (nested h (inside y k))
      at (inr k) = name_normal

  -- what is followed becomes its last tree
  pub last_is : (x : ℕ) → Contains course.followed x → substitute a (last.trees x) ≡ course.last x
  last_is x c = substitute_agrees a r.psi (last.trees x) (λ y k. a_there y (x, c, k)) ∙ r.goes.trees x c

  becomes : (x l : ℕ) → level_of scene.system.levels x ≡ Some l → course.s x ≡ substitute a (r.solution.bindings x)
  becomes x l e = sym (course.ends x l e) ∙ sym (last_is x (course.among x l e)) ∙ ap (substitute a) (sym (binding x l e))

  pub is_listed : (h : IsListed names scene list course.s) × (h.solution ≡ r.solution) × (h.a ≡ a)
  is_listed = (
    record {
      solution = r.solution;
      listed = r.listed;
      a = a;
      assignment = record { bound = bound; asked = asked };
      normal = normal;
      becomes = record { variables = becomes; others = course.solution.choice.others };
    },
    refl,
    refl,
  )
