-- What a listed solution is like.
use Rattle.std.proofs.Common.{◌≡◌, ℕ, ◌≤◌, List, [], ◌⊎◌, inl, inr, Option, Some, None, refl, sym, ◌∙◌, ap, arith, subst, Contains, if◌then◌else◌}
use Rattle.std.specs.Prelude.{is_some}
use Rattle.dps_terms.specs.Tree.{Leaf, public, private, var, ax, entry, rigid, leaf, StandsIn, IsSubterm, itself}
use Rattle.dps_terms.specs.Replace.{variables_to}
use Rattle.dps_terms.specs.Kinds.{AnySymbol}
use Rattle.dps_terms.proofs.Replacing.{keeps_subterms}
use Rattle.dps_terms.proofs.Building.{leaf_meets, built_subterm, built_of}
use Rattle.dps_terms.proofs.Subterms.{nested}
use Rattle.dps_unify.specs.Order.{level_of}
use Rattle.dps_solver.specs.Levels.{IsVariableUpTo, IsLeafUpTo}
use Rattle.dps_solver.specs.Scene.{Scene, Ask}
use Rattle.dps_solver.specs.Search.{GeneralSolution, IsPlain, Branch, bindings_of}
use Rattle.dps_directions.proofs.Invariant.{IsFree, IsOpen, IsBuiltLeaf}
use Rattle.dps_directions.specs.Values.{AreTreesOver}
use Rattle.dps_directions.specs.Directions.{HoldsRigidNamesOf}
use Rattle.dps_directions.specs.Shapes.{PartsAreUpTo}
use Rattle.dps_directions.proofs.Steps.{IsOutcome, LevelIsLeast}

pub bindings_at : (scene : Scene) (b : Branch) (x l : ℕ) → level_of scene.system.levels x ≡ Some l → bindings_of scene b x ≡ b.trees x
bindings_at scene b x l e = ap (λ (o : Option ℕ). if is_some o then b.trees x else leaf (var x)) e

pub bindings_else : (scene : Scene) (b : Branch) (x : ℕ) → level_of scene.system.levels x ≡ None → bindings_of scene b x ≡ leaf (var x)
bindings_else scene b x e = ap (λ (o : Option ℕ). if is_some o then b.trees x else leaf (var x)) e

pub nothing_in : {X : Type 0} (xs : List X) (x : X) → xs ≡ [] → Contains xs x → ⊥
nothing_in xs x e c = let d : Contains [] x = subst (λ ys. Contains ys x) e c in omega (arith, d.1)

pub levels_cases : (o : Option ℕ) → (o ≡ None) ⊎ ((l : ℕ) × (o ≡ Some l))
levels_cases None = inl refl
levels_cases (Some l) = inr (l, refl)

same_level : (levels : List (ℕ × ℕ)) (y k l : ℕ) → level_of levels y ≡ Some k → level_of levels y ≡ Some l → k ≡ l
same_level levels y k l e f = let d : Some k ≡ Some l = sym e ∙ f in cc

module _ (scene : Scene) (ask : Ask) (solution : GeneralSolution) (o : IsOutcome scene ask solution) where
  pub binding_at : (x l : ℕ) → level_of scene.system.levels x ≡ Some l → solution.bindings x ≡ o.last.trees x
  binding_at x l e = ap (λ (s : GeneralSolution). s.bindings x) o.is ∙ bindings_at scene o.last x l e

  pub binding_else : (x : ℕ) → level_of scene.system.levels x ≡ None → solution.bindings x ≡ leaf (var x)
  binding_else x e = ap (λ (s : GeneralSolution). s.bindings x) o.is ∙ bindings_else scene o.last x e

  pub theta_at : (x : ℕ) → solution.theta x ≡ o.last.theta x
  theta_at x = ap (λ (s : GeneralSolution). s.theta x) o.is

  -- no tree is sought any more
  pub is_free : (y l : ℕ) → IsOpen o.last y l → IsFree o.last y l
  is_free y l (inl p) = absurd (nothing_in o.last.targets p.0 o.no_target p.1)
  is_free y l (inr f) = f

  -- a variable of a binding is free, with a level of at most the bound one's
  pub free_in_binding : (x l y : ℕ) → level_of scene.system.levels x ≡ Some l → StandsIn (var y) (o.last.trees x) → (k : ℕ) × IsFree o.last y k × (k ≤ l)
  free_in_binding x l y e c =
      let h = leaf_meets (IsBuiltLeaf scene o.last l) AnySymbol (o.kept.bindings x l e).leaves c in (h.0, is_free y h.0 h.1, h.2)

  pub plain_at : (x : ℕ) → ((y l : ℕ) → level_of scene.system.levels y ≡ Some l → solution.theta y ≡ leaf (var y)) → solution.bindings x ≡ leaf (var x)
  plain_at x h =
      elim (levels_cases (level_of scene.system.levels x)) [
        | inl e ↦ binding_else x e
        | inr e ↦ binding_at x e.0 e.1 ∙ o.kept.unbound x e.0 e.1 (sym (theta_at x) ∙ h x e.0 e.1)
      ]

  pub unbound_at : IsPlain solution → (x l : ℕ) → level_of scene.system.levels x ≡ Some l → solution.theta x ≡ leaf (var x)
  unbound_at plain x l e =
      let there : StandsIn (var x) (o.last.trees x) = subst (λ t. StandsIn (var x) t) (sym (plain x) ∙ binding_at x l e) itself in
      theta_at x ∙ (free_in_binding x l x e there).1.1

  -- a binding of a variable of smaller level than m holds no rigid name
  pub low_at : (x l k : ℕ) → level_of scene.system.levels x ≡ Some l → StandsIn (rigid k) (solution.bindings x) → scene.system.m ≤ l
  low_at x l k e c =
      let there : StandsIn (rigid k) (o.last.trees x) = subst (λ t. StandsIn (rigid k) t) (binding_at x l e) c in
      leaf_meets (IsBuiltLeaf scene o.last l) AnySymbol (o.kept.bindings x l e).leaves there

-- bindings are trees of the levels
module _ (names : ℕ → Type 0) (scene : Scene) (ask : Ask) (solution : GeneralSolution) (o : IsOutcome scene ask solution) (levels : List (ℕ × ℕ))
    (holds : HoldsRigidNamesOf names scene solution)
    (low : (x l y : ℕ) → level_of scene.system.levels x ≡ Some l → StandsIn (var y) (solution.bindings x) → IsVariableUpTo levels l y) where
  leaf_up_to : (x l : ℕ) → level_of scene.system.levels x ≡ Some l → (v : Leaf) → StandsIn v (solution.bindings x) → IsBuiltLeaf scene o.last l v
      → IsLeafUpTo names scene.system.m scene.system.know levels l v
  leaf_up_to x l e (public n) c h = tt
  leaf_up_to x l e (private n) c h = h
  leaf_up_to x l e (ax n) c h = h
  leaf_up_to x l e (entry i) c h = h
  leaf_up_to x l e (rigid k) c h = (holds x l k e c, h)
  leaf_up_to x l e (var y) c h = low x l y e c

  pub bindings_up_to : AreTreesOver names scene.system levels solution.bindings
  bindings_up_to = record {
    trees = λ x l e.
        built_of (IsLeafUpTo names scene.system.m scene.system.know levels l) AnySymbol (solution.bindings x)
        (λ v c. leaf_up_to x l e v c
        (leaf_meets (IsBuiltLeaf scene o.last l) AnySymbol (o.kept.bindings x l e).leaves
        (subst (λ t. StandsIn v t) (binding_at scene ask solution o x l e) c)))
        (λ f ts c. tt);
  }

pub level_is_least : (scene : Scene) (ask : Ask) → LevelIsLeast scene ask
level_is_least scene ask = λ solution o x k y l e c at.
    let there : StandsIn (var y) (o.last.trees x) = subst (λ t. StandsIn (var y) t) (binding_at scene ask solution o x k e) c in
    let up = free_in_binding scene ask solution o x k y e there in
    let up_is = same_level o.last.levels y up.0 l up.1.0 at in
    let free : IsFree o.last y l = subst (λ n. IsFree o.last y n) up_is up.1 in
    let least = o.kept.least y l (inr free) (x, k, e, there) in
    let down = free_in_binding scene ask solution o least.0 least.1 y least.2 least.3 in
    let down_is = same_level o.last.levels y down.0 l down.1.0 at in (
      omega (arith, up_is, up.2),
      (least.0, least.1, least.2, subst (λ t. StandsIn (var y) t) (sym (binding_at scene ask solution o least.0 least.1 least.2)) least.3, omega (arith, down_is, down.2, least.4)),
    )

pub parts_are_up_to : (names : ℕ → Type 0) (scene : Scene) → PartsAreUpTo names scene
parts_are_up_to names scene = λ solution a s choice instance x l y e c.
    let part : IsSubterm (a y) (s x) =
    subst (λ t. IsSubterm (a y) t) (sym (instance.variables x l e)) (keeps_subterms (variables_to a) c)
    in (
      built_subterm (IsLeafUpTo names scene.system.m scene.system.know [] l) AnySymbol (choice.trees x l e) part,
      λ normal r there inside. normal r there (nested inside part),
    )
