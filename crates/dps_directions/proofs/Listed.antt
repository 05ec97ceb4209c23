-- The second and the third direction.
use Rattle.std.proofs.Common.{◌≡◌, ℕ, List, [], ◌∷◌, ◌++◌, map, ◌⊎◌, inl, inr, Some, refl, sym, ◌∙◌, ap, subst, Contains, AllPairs}
use Rattle.std.specs.Prelude.{◌≢◌, All, ⊤}
use Rattle.std.specs.List.{AllZip}
use Rattle.std.proofs.lemmas.Slice.Zip.{AllZip-map}
use Rattle.dps_terms.specs.Tree.{Tree, IsSubterm}
use Rattle.dps_terms.specs.Replace.{substitute, put_entries}
use Rattle.dps_terms.specs.Kinds.{AnySymbol}
use Rattle.dps_terms.proofs.Building.{built_subterm}
use Rattle.dps_terms.proofs.Subterms.{nested}
use Rattle.dps_unify.specs.Order.{level_of}
use Rattle.dps_know.proofs.Listing.{in_head, in_tail, in_left, in_right, in_append, mapped_contains}
use Rattle.dps_solver.specs.Levels.{IsLeafUpTo, IsGroundUpTo, AnyRigidName}
use Rattle.dps_solver.specs.Scene.{Scene, Ask}
use Rattle.dps_solver.specs.declared.scene.Target.{Target}
use Rattle.dps_solver.specs.Solutions.{IsSolution, IsValuation, IsNormalUnder, MeetsBy}
use Rattle.dps_solver.specs.Search.{GeneralSolution, Finds}
use Rattle.dps_directions.specs.Valid.{IsValid, Fits, AreUnique}
use Rattle.dps_directions.specs.Directions.{IsListed, MeetingAreListed, TreesAreListed}
use Rattle.dps_directions.proofs.Course.{Course}
use Rattle.dps_directions.proofs.SceneCourse.{level_listed, scene_course}
use Rattle.dps_directions.proofs.Steps.{IsReached}
use Rattle.dps_directions.proofs.Valuations.{ground_above}
use Rattle.dps_directions.proofs.Following.{level_below_m, distinct_head, distinct_tail}
use Rattle.dps_directions.proofs.Lowering.{with_one, with_here, with_else}
use Rattle.dps_directions.proofs.Respecting.{unmapped}
use Rattle.dps_directions.proofs.Beginning.{level_number, all_in}
use Rattle.dps_directions.proofs.Second.{a, is_listed, last_is}
use Rattle.dps_directions.proofs.AlongStart.{put_targets, target_at, ground_any, first_trees, at_scene, reached}

mapped_same : {X Y Z : Type 0} (f : X → Y) (h : Y → Z) (k : X → Z) (xs : List X) → ((x : X) → Contains xs x → h (f x) ≡ k x) → map h (map f xs) ≡ map k xs
mapped_same f h k [] e = refl
mapped_same f h k (x ∷ xs) e =
    let first = e x (in_head x xs) in
    let rest = mapped_same f h k xs (λ y c. e y (in_tail y x xs c)) in
    λ i. first i ∷ rest i

zip_each : {X Y : Type 0} (R Q : X → Y → Type 0) (xs : List X) (ys : List Y) → AllZip R xs ys → ((x : X) (y : Y) → Contains xs x → Contains ys y → R x y → Q x y)
    → AllZip Q xs ys
zip_each R Q [] [] h f = tt
zip_each R Q [] (y ∷ ys) h f = absurd h
zip_each R Q (x ∷ xs) [] h f = absurd h
zip_each R Q (x ∷ xs) (y ∷ ys) h f =
    (f x y (in_head x xs) (in_head y ys) h.0, zip_each R Q xs ys h.1 (λ u v c d k. f u v (in_tail u x xs c) (in_tail v y ys d) k))

-- the trees of distinct names
names_at : (zs : List Target) (ts : List Tree) → AllZip (λ (z : Target) (t : Tree). ⊤) zs ts → AllPairs (λ (x y : Target). x.name ≢ y.name) zs → (f : ℕ → Tree)
    → AllZip (λ (z : Target) t. t ≡ put_targets zs ts f z.name) zs ts
names_at [] [] h a f = tt
names_at [] (t ∷ ts) h a f = absurd h
names_at (z ∷ zs) [] h a f = absurd h
names_at (z ∷ zs) (t ∷ ts) h a f = (
  sym (with_here z.name t (put_targets zs ts f) z.name refl),
  zip_each (λ (y : Target) u. u ≡ put_targets zs ts f y.name) (λ (y : Target) u. u ≡ with_one z.name t (put_targets zs ts f) y.name) zs ts
      (names_at zs ts h.1 (distinct_tail z zs a) f)
      (λ y u c d e. e ∙ sym (with_else z.name t (put_targets zs ts f) y.name (distinct_head z y zs a c))),
)

module _ (names : ℕ → Type 0) (scene : Scene) (ask : Ask) (valid : IsValid names scene) (fits : Fits scene ask) (s eta : ℕ → Tree) (g trees : List Tree)
    (solution : IsSolution names scene.system s) (valuation : IsValuation scene s g) (meets : MeetsBy scene ask s g eta trees) where
  abbrev levelled : List ℕ
  levelled = map (λ (p : ℕ × ℕ). p.0) scene.system.levels

  abbrev last : ℕ → Tree
  last = first_trees names scene ask valid fits s trees

  last_at : (x l : ℕ) → level_of scene.system.levels x ≡ Some l → last x ≡ s x
  last_at x l e = at_scene names scene ask valid fits s trees x l e

  starts : (x : ℕ) → Contains levelled x → last x ≡ s x
  starts x c = let l = level_listed scene.system.levels x c in last_at x l.0 l.1

  pub second : (list : List GeneralSolution) (moves : ℕ) → Finds scene ask list moves → IsListed names scene list s
  second list moves found =
      let course = scene_course names scene ask valid s g solution valuation in
      (is_listed names scene ask valid course list (reached names scene ask valid fits s trees course refl starts eta meets found)).0

  -- where all trees are told by their values, those of the targets are followed too
  module _ (sharp : AreUnique AnyRigidName scene.system s g scene.system.m) (normal : All (λ t. IsNormalUnder s scene.system t) trees) where
    abbrev named : List ℕ
    named = map (λ (z : Target). z.name) ask.targets

    abbrev all_followed : List ℕ
    all_followed = levelled ++ named

    name_of : (x : ℕ) → Contains all_followed x → ((l : ℕ) × (level_of scene.system.levels x ≡ Some l)) ⊎ ((z : Target) × Contains ask.targets z × (z.name ≡ x))
    name_of x c = elim (in_append x levelled named c) [
      | inl k ↦ inl (level_listed scene.system.levels x k)
      | inr k ↦ let z = unmapped (λ (y : Target). y.name) ask.targets x k in inr (z.0, z.1, sym z.2)
    ]

    abbrev IsGoodTree : Tree → Type 0
    IsGoodTree t = IsGroundUpTo AnyRigidName scene.system.m scene.system.know scene.system.m t × IsNormalUnder s scene.system t

    level_m : (z : Target) → Contains ask.targets z → z.level ≡ scene.system.m
    level_m z c = all_in (λ (y : Target). y.level ≡ scene.system.m) ask.targets z fits.levels c

    targets_good : AllZip (λ (z : Target) t. IsGoodTree t) ask.targets trees
    targets_good =
        zip_each
        (λ (z : Target) t. IsGroundUpTo AnyRigidName scene.system.m scene.system.know z.level t × (put_entries g t ≡ substitute eta z.term))
        (λ (z : Target) t. IsGoodTree t) ask.targets trees meets.targets
        (λ z t c d h. (
          subst (λ n. IsGroundUpTo AnyRigidName scene.system.m scene.system.know n t) (level_m z c) h.0,
          all_in (λ u. IsNormalUnder s scene.system u) trees t normal d,
        ))

    good_target : (z : Target) → Contains ask.targets z → IsGoodTree (last z.name)
    good_target z c = target_at (λ (y : Target) t. IsGoodTree t) ask.targets trees s targets_good fits.distinct z c

    good_scene : (x l : ℕ) → level_of scene.system.levels x ≡ Some l → IsGoodTree (last x)
    good_scene x l e = subst IsGoodTree (sym (last_at x l e)) (
      ground_any names scene.system.m scene.system.know scene.system.m (s x)
          (ground_above names scene.system.m scene.system.know l scene.system.m (s x) (level_below_m names scene valid x l e) (solution.choice.trees x l e)),
      solution.normal x l e,
    )

    good : (x : ℕ) → Contains all_followed x → IsGoodTree (last x)
    good x c = elim (name_of x c) [
      | inl h ↦ good_scene x h.0 h.1
      | inr h ↦ subst (λ n. IsGoodTree (last n)) h.2 (good_target h.0 h.1)
    ]

    good_part : (x : ℕ) (t : Tree) → Contains all_followed x → IsSubterm t (last x) → IsGoodTree t
    good_part x t c h =
        let all = good x c in
        (built_subterm (IsLeafUpTo AnyRigidName scene.system.m scene.system.know [] scene.system.m) AnySymbol all.0 h, λ r d k. all.1 r d (nested k h))

    abbrev answers_course : Course names scene ask
    answers_course = record {
      s = s;
      g = g;
      followed = all_followed;
      last = last;
      solution = solution;
      valuation = valuation;
      among = λ x l e. in_left x levelled named (level_number scene.system.levels x l e);
      ends = last_at;
      only = name_of;
      told = λ x y t u c d h j same.
          let t_good = good_part x t c h in
          let u_good = good_part y u d j in
          sharp t u t_good.0 u_good.0 t_good.1 u_good.1 same;
      normal = λ x c. (good x c).1;
    }

    module _ (list : List GeneralSolution) (r : IsReached names scene ask answers_course list) where
      answer_is : (z : Target) → Contains ask.targets z
          → substitute (a names scene ask valid answers_course list r) (r.outcome.last.trees z.name) ≡ last z.name
      answer_is z c =
          last_is names scene ask valid answers_course list r z.name
          (in_right z.name levelled named (mapped_contains (λ (y : Target). y.name) ask.targets z c))

      trees_are : trees ≡ map (λ (z : Target). last z.name) ask.targets
      trees_are =
          AllZip-map (λ (z : Target). last z.name) ask.targets trees
          (names_at ask.targets trees (zip_each (λ (z : Target) t. IsGoodTree t) (λ (z : Target) t. ⊤) ask.targets trees targets_good (λ z t c d h. tt)) fits.distinct s)

      answers_are : map (substitute (a names scene ask valid answers_course list r)) r.solution.answers ≡ trees
      answers_are =
          ap (λ (q : GeneralSolution). map (substitute (a names scene ask valid answers_course list r)) q.answers) r.outcome.is
          ∙ mapped_same (λ (z : Target). r.outcome.last.trees z.name) (substitute (a names scene ask valid answers_course list r))
          (λ (z : Target). last z.name) ask.targets answer_is
          ∙ sym trees_are

    pub third : (list : List GeneralSolution) (moves : ℕ) → Finds scene ask list moves
        → (listed : IsListed names scene list s) × (map (substitute listed.a) listed.solution.answers ≡ trees)
    third list moves found =
        let r = reached names scene ask valid fits s trees answers_course refl (λ x c. refl) eta meets found in
        let h = is_listed names scene ask valid answers_course list r in (
          h.0,
          ap (λ (q : GeneralSolution). map (substitute h.0.a) q.answers) h.1
              ∙ ap (λ (z : ℕ → Tree). map (substitute z) r.solution.answers) h.2
              ∙ answers_are list r,
        )

pub meeting_are_listed : (names : ℕ → Type 0) (scene : Scene) (ask : Ask) → MeetingAreListed names scene ask
meeting_are_listed names scene ask = λ list moves s valid fits found solution meets.
    second names scene ask valid fits s meets.eta meets.values meets.trees solution meets.valuation meets.meets list moves found

pub trees_are_listed : (names : ℕ → Type 0) (scene : Scene) (ask : Ask) → TreesAreListed names scene ask
trees_are_listed names scene ask = λ list moves s eta g trees sharp fits found solution valuation meets normal.
    third names scene ask sharp.valid fits s eta g trees solution valuation meets (sharp.sharp s g solution valuation) normal list moves found
