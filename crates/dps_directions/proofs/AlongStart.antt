-- A solution that meets the ask goes with the start of the search.
use Rattle.std.proofs.Common.{◌≡◌, ℕ, List, [], ◌∷◌, inl, inr, Some, refl, sym, ◌∙◌, ap, subst, Contains, AllPairs}
use Rattle.std.specs.Prelude.{◌≢◌}
use Rattle.std.specs.List.{AllZip}
use Rattle.dps_terms.specs.Tree.{Leaf, public, private, var, ax, entry, rigid, Tree}
use Rattle.dps_terms.specs.Replace.{substitute, put_entries}
use Rattle.dps_terms.specs.Bindings.{image}
use Rattle.dps_terms.specs.Kinds.{AnySymbol}
use Rattle.dps_terms.proofs.Building.{built_weaker}
use Rattle.dps_unify.specs.Order.{level_of}
use Rattle.dps_unify.specs.Unifier.{IsMgu}
use Rattle.dps_know.specs.Know.{Knowledge}
use Rattle.dps_know.proofs.Listing.{in_cons, in_head, in_tail, in_none}
use Rattle.dps_solver.specs.Levels.{IsLeafUpTo, IsGroundUpTo, AnyRigidName}
use Rattle.dps_solver.specs.Scene.{Scene, Ask}
use Rattle.dps_solver.specs.declared.scene.Target.{Target}
use Rattle.dps_solver.specs.Solutions.{identity, IsChoice, MeetsBy}
use Rattle.dps_solver.specs.Search.{Branch, unbound, with_bound, AreNewlyBound, GeneralSolution, Finds, unsolvable, starts, Lists}
use Rattle.dps_directions.specs.Valid.{IsValid, Fits}
use Rattle.dps_directions.proofs.Invariant.{IsOpen}
use Rattle.dps_directions.proofs.Course.{Course, GoesWith, GoesAlong}
use Rattle.dps_directions.proofs.Steps.{IsReached}
use Rattle.dps_directions.proofs.Following.{distinct_head, distinct_tail, level_below_m}
use Rattle.dps_directions.proofs.Lowering.{with_one, with_here, with_else}
use Rattle.dps_directions.proofs.NewlyBound.{bound_is}
use Rattle.dps_directions.proofs.Beginning.{unbound_kept, inside, name_no_level, start_kept}
use Rattle.dps_directions.proofs.Reaching.{unifies_after}
use Rattle.dps_directions.proofs.Respecting.{ends_respect}
use Rattle.dps_directions.proofs.Followed.{follow_all}
use Rattle.dps_directions.proofs.Going.{goes_on}
use Rattle.dps_directions.proofs.AlongUnify.{after, along_unify}

-- the targets' trees, and what else is given
abbrev pub put_targets : List Target → List Tree → (ℕ → Tree) → ℕ → Tree
put_targets [] ts f = f
put_targets (z ∷ zs) [] f = f
put_targets (z ∷ zs) (t ∷ ts) f = with_one z.name t (put_targets zs ts f)

abbrev Distinct : List Target → Type 0
Distinct zs = AllPairs (λ (x y : Target). x.name ≢ y.name) zs

pub target_at : (R : Target → Tree → Type 0) (zs : List Target) (ts : List Tree) (f : ℕ → Tree) → AllZip R zs ts → Distinct zs → (z : Target) → Contains zs z
    → R z (put_targets zs ts f z.name)
target_at R [] ts f h a z c = absurd (in_none z c)
target_at R (y ∷ zs) [] f h a z c = absurd h
target_at R (y ∷ zs) (t ∷ ts) f h a z c = elim (in_cons z y zs c) [
  | inl e ↦
      subst (λ (x : Target). R x (with_one y.name t (put_targets zs ts f) x.name)) (sym e)
      (subst (R y) (sym (with_here y.name t (put_targets zs ts f) y.name refl)) h.0)
  | inr k ↦
      subst (R z) (sym (with_else y.name t (put_targets zs ts f) z.name (distinct_head y z zs a k)))
      (target_at R zs ts f h.1 (distinct_tail y zs a) z k)
]

pub target_else : (zs : List Target) (ts : List Tree) (f : ℕ → Tree) (y : ℕ) → ((z : Target) → Contains zs z → z.name ≢ y) → put_targets zs ts f y ≡ f y
target_else [] ts f y h = refl
target_else (z ∷ zs) [] f y h = refl
target_else (z ∷ zs) (t ∷ ts) f y h =
    with_else z.name t (put_targets zs ts f) y (h z (in_head z zs)) ∙ target_else zs ts f y (λ x c. h x (in_tail x z zs c))

-- any rigid name may stand where some may
any_leaf : (names : ℕ → Type 0) (m : ℕ) (know : Knowledge) (l : ℕ) (x : Leaf) → IsLeafUpTo names m know [] l x → IsLeafUpTo AnyRigidName m know [] l x
any_leaf names m know l (public n) h = h
any_leaf names m know l (private n) h = h
any_leaf names m know l (var n) h = h
any_leaf names m know l (ax n) h = h
any_leaf names m know l (entry n) h = h
any_leaf names m know l (rigid n) h = (tt, h.1)

pub ground_any : (names : ℕ → Type 0) (m : ℕ) (know : Knowledge) (l : ℕ) (t : Tree) → IsGroundUpTo names m know l t → IsGroundUpTo AnyRigidName m know l t
ground_any names m know l t h = built_weaker (IsLeafUpTo names m know [] l) AnySymbol (IsLeafUpTo AnyRigidName m know [] l) t h (any_leaf names m know l)

module _ (names : ℕ → Type 0) (scene : Scene) (ask : Ask) (valid : IsValid names scene) (fits : Fits scene ask) (s : ℕ → Tree) (trees : List Tree) where
  abbrev pub first_trees : ℕ → Tree
  first_trees = put_targets ask.targets trees s

  pub at_scene : (x l : ℕ) → level_of scene.system.levels x ≡ Some l → first_trees x ≡ s x
  at_scene x l e =
      target_else ask.targets trees s x
      (λ z c d. name_no_level names scene ask valid fits z c l (subst (λ n. level_of scene.system.levels n ≡ Some l) (sym d) e))

  module _ (course : Course names scene ask) (same : course.s ≡ s)
      (starts_at : (x : ℕ) → Contains course.followed x → first_trees x ≡ course.last x) (eta : ℕ → Tree) (meets : MeetsBy scene ask s course.g eta trees) where
    abbrev start : Branch
    start = unbound scene ask

    abbrev MeetsTarget : Target → Tree → Type 0
    MeetsTarget z t = IsGroundUpTo AnyRigidName scene.system.m scene.system.know z.level t × (put_entries course.g t ≡ substitute eta z.term)

    target_meets : (z : Target) → Contains ask.targets z → MeetsTarget z (first_trees z.name)
    target_meets z c = target_at MeetsTarget ask.targets trees s meets.targets fits.distinct z c

    choice : IsChoice names scene.system s
    choice = subst (IsChoice names scene.system) same course.solution.choice

    abbrev Ground : ℕ → Tree → Type 0
    Ground l t = IsGroundUpTo AnyRigidName scene.system.m scene.system.know l t

    levels_now : (y l : ℕ) → IsOpen start y l → Ground l (first_trees y)
    levels_now y l (inl q) = subst (λ n. Ground n (first_trees y)) q.3 (subst (λ n. Ground q.0.level (first_trees n)) q.2 (target_meets q.0 q.1).0)
    levels_now y l (inr f) =
        subst (Ground l) (sym (at_scene y l f.0)) (ground_any names scene.system.m scene.system.know l (s y) (choice.trees y l f.0))

    goes_start : GoesWith names scene ask course start eta first_trees
    goes_start = record {
      trees = starts_at;
      levels = levels_now;
      free = λ y l f. ap (put_entries course.g) (at_scene y l f.0) ∙ sym (meets.agrees y l f.0);
      sought = λ z c. (target_meets z c).1;
      values = λ x. refl;
      agrees = λ x l e. meets.agrees x l e ∙ ap (λ (f : ℕ → Tree). put_entries course.g (f x)) (sym same);
    }

    module _ (u : List (ℕ × Tree)) (mgu : IsMgu scene.system.levels ask.equations u) (ps : List (ℕ × ℕ))
        (newly : AreNewlyBound scene.system.levels identity (image u) ps) where
      goes_first : GoesAlong names scene ask course (with_bound ps (record (unbound scene ask) { theta = image u }))
      goes_first =
          subst (GoesAlong names scene ask course) (sym (bound_is ps (record (unbound scene ask) { theta = image u }))) (
            eta,
            after names scene ask course start (unbound_kept names scene ask valid fits) eta first_trees goes_start u ask.equations mgu
                (inside names scene ask valid fits) meets.equations ps newly ask.targets identity (λ y c. c) fits.distinct (λ y k h. refl) (λ y k f. refl)
                (λ y k o. elim o [ inl h ↦ inl h | inr f ↦ inr (inl f) ]) (level_below_m names scene valid) (λ y j e. cc),
            along_unify names scene ask course start (unbound_kept names scene ask valid fits) eta first_trees goes_start u ask.equations mgu
                (inside names scene ask valid fits) meets.equations ps newly ask.targets identity (λ y c. c) fits.distinct (λ y k h. refl) (λ y k f. refl)
                (λ y k o. elim o [ inl h ↦ inl h | inr f ↦ inr (inl f) ]) (level_below_m names scene valid) (λ y j e. cc),
          )

    -- so it is followed to a listed one
    pub reached : {list : List GeneralSolution} {moves : ℕ} → Finds scene ask list moves → IsReached names scene ask course list
    reached (unsolvable never n) = absurd (never eta meets.equations)
    reached (starts {u = u} {theta = theta} {bound = bound} {list = list} {moves = moves} h e m g t) =
        let same_branch = g ∙ ap (λ z. with_bound bound (record (unbound scene ask) { theta = z })) e in
        let newly = subst (λ z. AreNewlyBound scene.system.levels identity z bound) e m in
        let goes = goes_first u h bound newly in
        follow_all names scene ask valid fits course (ends_respect names scene ask) (goes_on names scene ask)
        (with_bound bound (record (unbound scene ask) { theta = image u })) list moves goes.0 goes.1
        (start_kept names scene ask valid fits u bound h newly) (unifies_after scene ask u bound h.unifies) goes.2
        (subst (λ b. Lists scene ask b list moves) same_branch t)
