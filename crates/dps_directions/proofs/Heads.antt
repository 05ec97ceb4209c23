-- The branches that lead to the first solution, where it is plain.
use Rattle.std.proofs.Common.{◌≡◌, ℕ, zero, suc, ◌≤◌, List, [], ◌∷◌, map, inl, inr, Option, None, Some, refl, sym, ◌∙◌, ap, subst, Contains}
use Rattle.std.specs.Prelude.{◌≢◌, IsSome}
use Rattle.dps_terms.specs.Tree.{var, entry, Tree, leaf, StandsIn, IsSubterm}
use Rattle.dps_terms.specs.Replace.{substitute, put_entries}
use Rattle.dps_unify.specs.Order.{level_of}
use Rattle.dps_unify.specs.Unifier.{Unifies}
use Rattle.dps_unify.proofs.Trees.{in_leaf, substitute_in_turn, substitute_agrees, substitute_itself}
use Rattle.dps_know.specs.Know.{IsThere, entry_at}
use Rattle.dps_know.specs.declared.know.Entry.{Entry}
use Rattle.dps_know.proofs.Listing.{in_cons}
use Rattle.dps_solver.specs.Levels.{IsEntryUpTo, IsGroundUpTo, AnyRigidName}
use Rattle.dps_solver.specs.Scene.{Scene, Ask}
use Rattle.dps_solver.specs.declared.scene.Target.{Target}
use Rattle.dps_solver.specs.Solutions.{IsSolution, valued, IsValuation, Respects}
use Rattle.dps_solver.specs.Search.{GeneralSolution, IsPlain, Branch, bindings_of, solution_of}
use Rattle.dps_directions.specs.Valid.{IsValid, IsComposed}
use Rattle.dps_directions.proofs.Invariant.{IsFree, IsOpen, IsKept}
use Rattle.dps_directions.proofs.Course.{Course, GoesWith}
use Rattle.dps_directions.proofs.Steps.{IsOutcome}
use Rattle.dps_directions.proofs.Following.{first_in, name_not_free, open_cases, distinct_head}
use Rattle.dps_directions.proofs.Lowering.{same_var, same_some, with_one, with_here, with_else}
use Rattle.dps_directions.proofs.NewlyBound.{Distinct}
use Rattle.dps_directions.proofs.Beginning.{all_in}
use Rattle.dps_directions.proofs.Outcomes.{binding_at, is_free, nothing_in}
use Rattle.dps_directions.proofs.AlongStart.{ground_any}
use Rattle.dps_directions.proofs.SceneCourse.{level_listed, scene_course}
use Rattle.dps_directions.proofs.Ways.{slice_contains}
use Rattle.dps_directions.proofs.PlainStill.{IsStill, StaysStill, still}

-- no composed part has an entry's value
abbrev pub IsApart : Scene → (ℕ → Tree) → List Tree → Tree → Type 0
IsApart scene s g t =
    (u : Tree) → IsSubterm u t → IsComposed u → (i : ℕ) → IsThere scene.system.know i → put_entries g (substitute s u) ≢ put_entries g (leaf (entry i))

-- what the open variables become on the way to the first solution, under which s goes with the branch
pub record IsHead (names : ℕ → Type 0) (scene : Scene) (ask : Ask) (course : Course names scene ask) (first : GeneralSolution) (b : Branch) : Type 0 where
  pub last : ℕ → Tree
  pub answers : first.answers ≡ map (λ (z : Target). last z.name) ask.targets
  pub rho : ℕ → Tree
  pub ends : (y : ℕ) → last y ≡ substitute rho (b.trees y)
  pub still : IsStill scene b
  pub fixed : (x l : ℕ) → level_of scene.system.levels x ≡ Some l → rho x ≡ leaf (var x)
  pub goes : GoesWith names scene ask course b (valued course.g course.s) (λ y. substitute course.s (rho y))
  pub apart : (z : Target) → Contains b.targets z → IsApart scene course.s course.g (rho z.name)

pub leaf_apart : (scene : Scene) (s : ℕ → Tree) (g : List Tree) (t : Tree) → ¬ IsComposed t → ((u : Tree) → IsSubterm u t → u ≡ t) → IsApart scene s g t
leaf_apart scene s g t never one u h c i there e = never (subst IsComposed (one u h) c)

module _ (names : ℕ → Type 0) (scene : Scene) (ask : Ask) (valid : IsValid names scene) (s : ℕ → Tree) (g : List Tree) (solves : IsSolution names scene.system s)
    (valuation : IsValuation scene s g) (first : GeneralSolution) (plain : IsPlain first) where
  abbrev pub course : Course names scene ask
  course = scene_course names scene ask valid s g solves valuation

  abbrev eta : ℕ → Tree
  eta = valued g s

  abbrev Ground : ℕ → Tree → Type 0
  Ground l t = IsGroundUpTo AnyRigidName scene.system.m scene.system.know l t

  -- the end
  module _ (b : Branch) (kept : IsKept scene ask b) (solved : Unifies b.theta ask.equations) (no_target : b.targets ≡ [])
      (respects : Respects scene.system (bindings_of scene b)) (is : first ≡ solution_of scene ask b) (stays : StaysStill scene b) where
    abbrev o : IsOutcome scene ask first
    o = record { last = b; kept = kept; solved = solved; no_target = no_target; respects = respects; is = is }

    rests : IsStill scene b
    rests = still scene ask first o stays plain

    ground_at_end : (y l : ℕ) → IsOpen b y l → Ground l (s y)
    ground_at_end y l open' =
        let f = is_free scene ask first o y l open' in
        let k = rests.levels y l f.0 in
        let same : k.0 ≡ l = same_some k.0 l (sym (kept.levels y k.0 k.1) ∙ f.0) in
        subst (λ n. Ground n (s y)) same (ground_any names scene.system.m scene.system.know k.0 (s y) (solves.choice.trees y k.0 k.1))

    tree_at_end : (x : ℕ) → Contains course.followed x → substitute s (b.trees x) ≡ s x
    tree_at_end x c =
        let l = level_listed scene.system.levels x c in
        ap (substitute s) (sym (binding_at scene ask first o x l.0 l.1) ∙ plain x)

    pub head_at_end : IsHead names scene ask course first b
    head_at_end = record {
      last = b.trees;
      answers = ap (λ (q : GeneralSolution). q.answers) is;
      rho = λ y. leaf (var y);
      ends = λ y. sym (substitute_itself (b.trees y));
      still = rests;
      fixed = λ x l e. refl;
      goes = record {
        trees = tree_at_end;
        levels = ground_at_end;
        free = λ y l f. refl;
        sought = λ z c. absurd (nothing_in b.targets z no_target c);
        values = λ x. ap (substitute eta) (rests.theta x);
        agrees = λ x l e. refl;
      };
      apart = λ z c. absurd (nothing_in b.targets z no_target c);
    }

  -- back over one way, which puts p into the trees
  module _ (b c : Branch) (z : Target) (rest : List Target) (kept : IsKept scene ask b) (is : b.targets ≡ z ∷ rest) (rests : IsStill scene b)
      (head : IsHead names scene ask course first c) (p : ℕ → Tree) (same : (x : ℕ) → c.trees x ≡ substitute p (b.trees x))
      (elsewhere_same : (y : ℕ) → y ≢ z.name → p y ≡ leaf (var y)) (open_after : (y l : ℕ) → y ≢ z.name → IsOpen b y l → IsOpen c y l)
      (free_after : (y l : ℕ) → IsFree b y l → IsFree c y l) (rest_after : (y : Target) → Contains rest y → Contains c.targets y) where
    abbrev pub rho : ℕ → Tree
    rho y = substitute head.rho (p y)

    abbrev pub psi : ℕ → Tree
    psi y = substitute s (rho y)

    abbrev later : ℕ → Tree
    later y = substitute s (head.rho y)

    rho_else : (y : ℕ) → y ≢ z.name → rho y ≡ head.rho y
    rho_else y d = ap (substitute head.rho) (elsewhere_same y d)

    psi_else : (y : ℕ) → y ≢ z.name → psi y ≡ later y
    psi_else y d = ap (substitute s) (rho_else y d)

    scene_not_name : (x l : ℕ) → level_of scene.system.levels x ≡ Some l → x ≢ z.name
    scene_not_name x l e d =
        name_not_free scene ask b z rest kept is l (subst (λ n. IsFree b n l) d (kept.levels x l e, rests.theta x))

    other_name : (y : Target) → Contains rest y → y.name ≢ z.name
    other_name y k d = distinct_head z y rest (subst (λ ts. Distinct ts) is kept.distinct) k (sym d)

    trees_back : (x : ℕ) → Contains course.followed x → substitute psi (b.trees x) ≡ s x
    trees_back x k =
        substitute_agrees psi (λ y. substitute later (p y)) (b.trees x) (λ y i. substitute_in_turn s head.rho (p y))
        ∙ sym (substitute_in_turn later p (b.trees x))
        ∙ ap (substitute later) (sym (same x))
        ∙ head.goes.trees x k

    module _ (ground : Ground z.level (psi z.name)) (value : put_entries g (psi z.name) ≡ substitute eta z.term) where
      levels_back : (y l : ℕ) → IsOpen b y l → Ground l (psi y)
      levels_back y l o = elim (open_cases scene ask b z rest kept is y l o) [
        | inl d ↦ subst (λ n. Ground n (psi y)) (sym d.1) (subst (λ n. Ground z.level (psi n)) (sym d.0) ground)
        | inr d ↦ subst (Ground l) (sym (psi_else y d.0)) (head.goes.levels y l (open_after y l d.0 o))
      ]

      free_back : (y l : ℕ) → IsFree b y l → put_entries g (psi y) ≡ eta y
      free_back y l f =
          let d : y ≢ z.name = λ e. name_not_free scene ask b z rest kept is l (subst (λ n. IsFree b n l) e f) in
          ap (put_entries g) (psi_else y d) ∙ head.goes.free y l (free_after y l f)

      sought_back : (y : Target) → Contains b.targets y → put_entries g (psi y.name) ≡ substitute eta y.term
      sought_back y k = elim (in_cons y z rest (subst (λ ts. Contains ts y) is k)) [
        | inl e ↦ subst (λ (q : Target). put_entries g (psi q.name) ≡ substitute eta q.term) (sym e) value
        | inr i ↦ ap (put_entries g) (psi_else y.name (other_name y i)) ∙ head.goes.sought y (rest_after y i)
      ]

      pub goes_back : GoesWith names scene ask course b eta psi
      goes_back = record {
        trees = trees_back;
        levels = levels_back;
        free = free_back;
        sought = sought_back;
        values = λ x. ap (substitute eta) (rests.theta x);
        agrees = λ x l e. refl;
      }

      apart_back : IsApart scene s g (rho z.name) → (y : Target) → Contains b.targets y → IsApart scene s g (rho y.name)
      apart_back h y k = elim (in_cons y z rest (subst (λ ts. Contains ts y) is k)) [
        | inl e ↦ subst (λ (q : Target). IsApart scene s g (rho q.name)) (sym e) h
        | inr i ↦ subst (IsApart scene s g) (sym (rho_else y.name (other_name y i))) (head.apart y (rest_after y i))
      ]

      pub head_back : IsApart scene s g (rho z.name) → IsHead names scene ask course first b
      head_back h = record {
        last = head.last;
        answers = head.answers;
        rho = rho;
        ends = λ y. head.ends y ∙ ap (substitute head.rho) (same y) ∙ substitute_in_turn head.rho p (b.trees y);
        still = rests;
        fixed = λ x l e. rho_else x (scene_not_name x l e) ∙ head.fixed x l e;
        goes = goes_back;
        apart = apart_back h;
      }

      -- where an entry has the target's value, it can be the target's tree
      entry_level : (i : ℕ) (e : Option Entry) → entry_at scene.system.know i ≡ e → IsSome e → IsEntryUpTo scene.system.know scene.system.m i
      entry_level i None at h = cc
      entry_level i (Some e) at h = (e, at, entry_low i e at)
        where
          entry_low : (j : ℕ) (d : Entry) → entry_at scene.system.know j ≡ Some d → d.level ≤ scene.system.m
          entry_low zero d f = cc
          entry_low (suc k) d f = all_in (λ (x : Entry). x.level ≤ scene.system.m) scene.system.know.entries d valid.entries (slice_contains scene.system.know.entries k d f)

      at_m : z.level ≡ scene.system.m
      at_m = kept.others z.name z.level (inl (z, first_in scene ask b z rest kept is, refl, refl))
          (λ i.
          let tree = kept.unbound i.0 i.1 i.2 (rests.theta i.0) in
          scene_not_name i.0 i.1 i.2 (sym (same_var z.name i.0 (in_leaf (var i.0) (leaf (var z.name)) (subst (λ t. StandsIn (var z.name) t) tree i.3)))))

      abbrev pub with_entry : ℕ → ℕ → Tree
      with_entry i = with_one z.name (leaf (entry i)) psi

      module _ (i : ℕ) (there : IsThere scene.system.know i) (equal : put_entries g (psi z.name) ≡ put_entries g (leaf (entry i))) where
        here_is : with_entry i z.name ≡ leaf (entry i)
        here_is = with_here z.name (leaf (entry i)) psi z.name refl

        else_is : (y : ℕ) → y ≢ z.name → with_entry i y ≡ psi y
        else_is y d = with_else z.name (leaf (entry i)) psi y (λ e. d (sym e))

        trees_now : (x : ℕ) → Contains course.followed x → substitute (with_entry i) (b.trees x) ≡ s x
        trees_now x k =
            let l = level_listed scene.system.levels x k in
            let tree = kept.unbound x l.0 l.1 (rests.theta x) in
            ap (substitute (with_entry i)) tree ∙ else_is x (scene_not_name x l.0 l.1) ∙ sym (ap (substitute psi) tree) ∙ trees_back x k

        ground_entry : Ground z.level (leaf (entry i))
        ground_entry = subst (λ n. IsEntryUpTo scene.system.know n i) (sym at_m) (entry_level i (entry_at scene.system.know i) refl there)

        levels_now : (y l : ℕ) → IsOpen b y l → Ground l (with_entry i y)
        levels_now y l o = elim (open_cases scene ask b z rest kept is y l o) [
          | inl d ↦
              subst (λ n. Ground n (with_entry i y)) (sym d.1)
              (subst (λ n. Ground z.level (with_entry i n)) (sym d.0) (subst (Ground z.level) (sym here_is) ground_entry))
          | inr d ↦ subst (Ground l) (sym (else_is y d.0)) (levels_back y l o)
        ]

        free_now : (y l : ℕ) → IsFree b y l → put_entries g (with_entry i y) ≡ eta y
        free_now y l f =
            let d : y ≢ z.name = λ e. name_not_free scene ask b z rest kept is l (subst (λ n. IsFree b n l) e f) in
            ap (put_entries g) (else_is y d) ∙ free_back y l f

        sought_now : (y : Target) → Contains b.targets y → put_entries g (with_entry i y.name) ≡ substitute eta y.term
        sought_now y k = elim (in_cons y z rest (subst (λ ts. Contains ts y) is k)) [
          | inl e ↦
              subst (λ (q : Target). put_entries g (with_entry i q.name) ≡ substitute eta q.term) (sym e)
              (ap (put_entries g) here_is ∙ sym equal ∙ value)
          | inr j ↦ ap (put_entries g) (else_is y.name (other_name y j)) ∙ sought_back y k
        ]

        pub goes_with_entry : (with_entry i z.name ≡ leaf (entry i)) × GoesWith names scene ask course b eta (with_entry i)
        goes_with_entry = (
          here_is,
          record {
            trees = trees_now;
            levels = levels_now;
            free = free_now;
            sought = sought_now;
            values = λ x. ap (substitute eta) (rests.theta x);
            agrees = λ x l e. refl;
          },
        )
