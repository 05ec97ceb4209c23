-- A solution goes along where more is put for variables in values.
use Rattle.std.proofs.Common.{◌≡◌, ℕ, ◌≤◌, List, [], ◌∷◌, ◌++◌, ◌⊎◌, inl, inr, Some, refl, sym, ◌∙◌, ap, arith, subst, Contains}
use Rattle.std.specs.Prelude.{◌≢◌}
use Rattle.dps_terms.specs.Tree.{var, entry, Tree, leaf, StandsIn, itself}
use Rattle.dps_terms.specs.Replace.{substitute, put_entries}
use Rattle.dps_terms.specs.Bindings.{image}
use Rattle.dps_unify.specs.Order.{level_of}
use Rattle.dps_unify.specs.Unifier.{Unifies, IsMgu, IsVariableOf}
use Rattle.dps_unify.proofs.Trees.{substitute_in_turn, substitute_agrees}
use Rattle.dps_know.proofs.Listing.{in_cons, in_head, in_tail, in_none, in_append}
use Rattle.dps_solver.specs.Levels.{IsGroundUpTo, AnyRigidName}
use Rattle.dps_solver.specs.Scene.{Scene, Ask}
use Rattle.dps_solver.specs.declared.scene.Target.{Target}
use Rattle.dps_solver.specs.Search.{Branch, AreNewlyBound}
use Rattle.dps_directions.proofs.Invariant.{IsFree, IsOpen, IsTermOf, IsKept}
use Rattle.dps_directions.proofs.Course.{Course, IsInTrees, in_trees_or_not, GoesWith, open_in, outside, same_tree, trees_after}
use Rattle.dps_directions.proofs.Valuations.{ground_above}
use Rattle.dps_directions.proofs.Following.{same_number}
use Rattle.dps_directions.proofs.Lowering.{same_var}
use Rattle.dps_directions.proofs.NewlyBound.{new_targets, moves, renamed, variable_or_not, renamed_is, is_new, Distinct}
use Rattle.dps_directions.proofs.Unifying.{th, IsLeft, IsEntryNow, th_fixed, th_levelled, back, next, p, newly_free, newly_bound, p_left, p_fixed, p_bound, open_before_unify, apart_now}

pub is_variable_or_not : (t : Tree) (v : ℕ) → (t ≡ leaf (var v)) ⊎ (t ≢ leaf (var v))
is_variable_or_not t v = elim (variable_or_not t) [
  | inl e ↦ elim (same_number e.0 v) [
    | inl d ↦ inl (e.1 ∙ ap (λ n. leaf (var n)) d)
    | inr d ↦ inr (λ h. d (same_var e.0 v (sym e.1 ∙ h)))
  ]
  | inr d ↦ inr (d v)
]

module _ (names : ℕ → Type 0) (scene : Scene) (ask : Ask) (course : Course names scene ask) (b : Branch) (kept : IsKept scene ask b)
    (eta psi : ℕ → Tree) (goes : GoesWith names scene ask course b eta psi) (u : List (ℕ × Tree)) (pairs : List (Tree × Tree)) (mgu : IsMgu b.levels pairs u)
    (inside : (n : ℕ) → IsVariableOf pairs n → (t : Tree) × IsTermOf scene ask b t × StandsIn (var n) (substitute b.theta t)) (unifies : Unifies eta pairs) where
  abbrev now : ℕ → Tree
  now = th scene ask b kept u pairs mgu inside

  values_now : (x : ℕ) → substitute eta (now x) ≡ eta x
  values_now x =
      substitute_in_turn eta (image u) (b.theta x)
      ∙ substitute_agrees (λ v. substitute eta (image u v)) eta (b.theta x) (λ v c. mgu.general eta unifies v)
      ∙ goes.values x

  -- a newly bound variable of the trees that is bound to v
  abbrev IsSource : List (ℕ × ℕ) → ℕ → Type 0
  IsSource qs v = (q : ℕ × ℕ) × Contains qs q × (now q.0 ≡ leaf (var v)) × IsInTrees course.followed b q.0

  earlier : (q : ℕ × ℕ) (qs : List (ℕ × ℕ)) (v : ℕ) → ¬ ((now q.0 ≡ leaf (var v)) × IsInTrees course.followed b q.0)
      → IsSource qs v ⊎ ¬ IsSource qs v → IsSource (q ∷ qs) v ⊎ ¬ IsSource (q ∷ qs) v
  earlier q qs v d (inl s) = inl (s.0, in_tail s.0 q qs s.1, s.2, s.3)
  earlier q qs v d (inr never) = inr (λ s. elim (in_cons s.0 q qs s.1) [
    | inl e ↦ d (subst (λ (r : ℕ × ℕ). (now r.0 ≡ leaf (var v)) × IsInTrees course.followed b r.0) e (s.2, s.3))
    | inr c ↦ never (s.0, c, s.2, s.3)
  ])

  pub source_or_not : (qs : List (ℕ × ℕ)) (v : ℕ) → IsSource qs v ⊎ ¬ IsSource qs v
  source_or_not [] v = inr (λ s. in_none s.0 s.1)
  source_or_not (q ∷ qs) v = elim (is_variable_or_not (now q.0) v) [
    | inl e ↦ elim (in_trees_or_not course.followed b q.0) [
      | inl i ↦ inl (q, in_head q qs, e, i)
      | inr n ↦ earlier q qs v (λ h. n h.1) (source_or_not qs v)
    ]
    | inr d ↦ earlier q qs v (λ h. d h.0) (source_or_not qs v)
  ]

  module _ (ps : List (ℕ × ℕ)) (newly : AreNewlyBound b.levels b.theta now ps) (left : List Target) (base : ℕ → Tree)
      (left_in : (y : Target) → Contains left y → Contains b.targets y) (left_distinct : Distinct left)
      (base_left : (y k : ℕ) → IsLeft left y k → base y ≡ leaf (var y)) (base_free : (y k : ℕ) → IsFree b y k → base y ≡ leaf (var y))
      (cases : (y k : ℕ) → IsOpen b y k → IsLeft left y k ⊎ (IsFree b y k ⊎ IsEntryNow scene now kept.means base y k))
      (below_m : (x l : ℕ) → level_of scene.system.levels x ≡ Some l → l ≤ scene.system.m)
      (entries : (y i : ℕ) → base y ≡ leaf (entry i) → psi y ≡ leaf (entry i)) where
    abbrev after_branch : Branch
    after_branch = next scene ask b kept u pairs mgu inside ps newly left base left_in left_distinct base_left base_free cases below_m

    abbrev put : ℕ → Tree
    put = p scene ask b kept u pairs mgu inside ps newly left base left_in left_distinct base_left base_free cases below_m

    is_free : (q : ℕ × ℕ) → Contains ps q → IsFree b q.0 q.1
    is_free q c = newly_free scene ask b kept u pairs mgu inside ps newly left base left_in left_distinct base_left base_free cases below_m q c

    is_bound : (q : ℕ × ℕ) → Contains ps q → now q.0 ≢ leaf (var q.0)
    is_bound q c = newly_bound scene ask b kept u pairs mgu inside ps newly left base left_in left_distinct base_left base_free cases below_m q c

    was_open : (y l : ℕ) → IsOpen after_branch y l → IsOpen b y l
    was_open y l o = open_before_unify scene ask b kept u pairs mgu inside ps newly left base left_in left_distinct base_left base_free cases below_m y l o

    -- what a variable is bound to gets its tree
    abbrev choose : (v : ℕ) → IsInTrees course.followed b v ⊎ ¬ IsInTrees course.followed b v → IsSource ps v ⊎ ¬ IsSource ps v → Tree
    choose v (inl i) q = psi v
    choose v (inr n) (inl s) = psi s.0.0
    choose v (inr n) (inr m) = psi v

    abbrev pub after : ℕ → Tree
    after v = choose v (in_trees_or_not course.followed b v) (source_or_not ps v)

    source_value : (v : ℕ) (s : IsSource ps v) → put_entries course.g (psi s.0.0) ≡ eta v
    source_value v s = goes.free s.0.0 s.0.1 (is_free s.0 s.1) ∙ sym (values_now s.0.0) ∙ ap (substitute eta) s.2

    target_free : (v : ℕ) (s : IsSource ps v) → (k : ℕ) × IsFree b v k
    target_free v s =
        let k = th_levelled scene ask b kept u pairs mgu inside s.0.0 s.0.1 v (is_free s.0 s.1).0 s.2 in
        let fixed = th_fixed scene ask b kept u pairs mgu inside s.0.0 v (subst (λ t. StandsIn (var v) t) (sym s.2) itself) in
        (k.0, (k.1, back scene ask b kept u pairs mgu inside v fixed))

    after_in : (v : ℕ) → IsInTrees course.followed b v → after v ≡ psi v
    after_in v i = at (in_trees_or_not course.followed b v) (source_or_not ps v)
      where
        at : (q : IsInTrees course.followed b v ⊎ ¬ IsInTrees course.followed b v) (r : IsSource ps v ⊎ ¬ IsSource ps v) → choose v q r ≡ psi v
        at (inl j) r = refl
        at (inr n) r = absurd (n i)

    after_source : (v : ℕ) (s : IsSource ps v) → after v ≡ psi s.0.0
    after_source v s = at (in_trees_or_not course.followed b v) (source_or_not ps v)
      where
        at : (q : IsInTrees course.followed b v ⊎ ¬ IsInTrees course.followed b v) (r : IsSource ps v ⊎ ¬ IsSource ps v) → choose v q r ≡ psi s.0.0
        at (inl i) r =
            let f = target_free v s in
            same_tree names scene ask course b kept eta psi goes v s.0.0 i s.3 (goes.free v f.0 f.1 ∙ sym (source_value v s))
        at (inr n) (inl r) = same_tree names scene ask course b kept eta psi goes r.0.0 s.0.0 r.3 s.3 (source_value v r ∙ sym (source_value v s))
        at (inr n) (inr never) = absurd (never s)

    abbrev IsMoved : ℕ → Type 0
    IsMoved v = (s : IsSource ps v) × ¬ IsInTrees course.followed b v × (after v ≡ psi s.0.0)

    after_cases : (v : ℕ) → (after v ≡ psi v) ⊎ IsMoved v
    after_cases v = elim (in_trees_or_not course.followed b v) [
      | inl i ↦ inl (after_in v i)
      | inr n ↦ elim (source_or_not ps v) [
        | inl s ↦ inr (s, n, after_source v s)
        | inr never ↦ inl (stays never (in_trees_or_not course.followed b v) (source_or_not ps v))
      ]
    ]
      where
        stays : ¬ IsSource ps v → (q : IsInTrees course.followed b v ⊎ ¬ IsInTrees course.followed b v) (r : IsSource ps v ⊎ ¬ IsSource ps v) → choose v q r ≡ psi v
        stays never (inl i) r = refl
        stays never (inr n) (inl s) = absurd (never s)
        stays never (inr n) (inr m) = refl

    -- trees
    free_at : (y k : ℕ) → IsInTrees course.followed b y → IsFree b y k → substitute after (put y) ≡ psi y
    free_at y k i f = elim (variable_or_not (now y)) [
      | inl e ↦ elim (same_number y e.0) [
        | inl d ↦
            ap (substitute after) (p_fixed scene ask b kept u pairs mgu inside ps newly left base left_in left_distinct base_left base_free cases below_m y k f
            (e.1 ∙ ap (λ n. leaf (var n)) (sym d))) ∙ after_in y i
        | inr d ↦
            let c : Contains ps (y, k) = (newly.those (y, k)).1 (f.0, f.1, λ h. d (sym (same_var e.0 y (sym e.1 ∙ h)))) in
            ap (substitute after) (p_bound scene ask b kept u pairs mgu inside ps newly left base left_in left_distinct base_left base_free cases below_m (y, k) c
            ∙ ap (λ t. renamed t y) e.1) ∙ after_source e.0 ((y, k), c, e.1, i)
      ]
      | inr d ↦
          let c : Contains ps (y, k) = (newly.those (y, k)).1 (f.0, f.1, d y) in
          ap (substitute after) (p_bound scene ask b kept u pairs mgu inside ps newly left base left_in left_distinct base_left base_free cases below_m (y, k) c
          ∙ renamed_is (now y) y d) ∙ after_in y i
    ]

    put_at : (y : ℕ) → IsInTrees course.followed b y → substitute after (put y) ≡ psi y
    put_at y i =
        let o = open_in names scene ask course b kept y i in
        elim (cases y o.0 o.1) [
          | inl h ↦
              ap (substitute after) (p_left scene ask b kept u pairs mgu inside ps newly left base left_in left_distinct base_left base_free cases below_m y o.0 h)
              ∙ after_in y i
          | inr h ↦ elim h [
            | inl f ↦ free_at y o.0 i f
            | inr e ↦ ap (λ t. substitute after (substitute (moves now ps) t)) e.1 ∙ sym (entries y e.0 e.1)
          ]
        ]

    trees_now : (x : ℕ) → Contains course.followed x → substitute after (after_branch.trees x) ≡ course.last x
    trees_now x c =
        ap (substitute after) (substitute_in_turn (moves now ps) base (b.trees x))
        ∙ trees_after names scene ask course b kept eta psi goes put after put_at x c

    abbrev Ground : ℕ → Tree → Type 0
    Ground l t = IsGroundUpTo AnyRigidName scene.system.m scene.system.know l t

    levels_now : (v l : ℕ) → IsOpen after_branch v l → Ground l (after v)
    levels_now v l o = elim (after_cases v) [
      | inl e ↦ subst (Ground l) (sym e) (goes.levels v l (was_open v l o))
      | inr s ↦
          let f = is_free s.0.0 s.0.1 in
          let high = outside names scene ask course b kept v l (was_open v l o) s.1 in
          let low = kept.up_to_m s.0.0.0 s.0.0.1 (inr f) in
          subst (Ground l) (sym s.2)
          (ground_above AnyRigidName scene.system.m scene.system.know s.0.0.1 l (psi s.0.0.0) (omega (arith, high, low)) (goes.levels s.0.0.0 s.0.0.1 (inr f)))
    ]

    free_now : (v l : ℕ) → IsFree after_branch v l → put_entries course.g (after v) ≡ eta v
    free_now v l f = elim (after_cases v) [
      | inl e ↦ ap (put_entries course.g) e ∙ goes.free v l (f.0, back scene ask b kept u pairs mgu inside v f.1)
      | inr s ↦ ap (put_entries course.g) s.2 ∙ source_value v s.0
    ]

    name_stays : (y : Target) → Contains (left ++ new_targets now ps) y → after y.name ≡ psi y.name
    name_stays y c = elim (after_cases y.name) [
      | inl e ↦ e
      | inr s ↦
          absurd (apart_now scene ask b kept u pairs mgu inside ps newly left base left_in left_distinct base_left base_free cases below_m y s.0.0.0 c
          (λ d. is_bound s.0.0 s.0.1 (s.0.2 ∙ ap (λ n. leaf (var n)) (sym d)))
          (subst (λ t. StandsIn (var y.name) t) (sym s.0.2) itself))
    ]

    sought_before : (y : Target) → Contains (left ++ new_targets now ps) y → put_entries course.g (psi y.name) ≡ substitute eta y.term
    sought_before y h = elim (in_append y left (new_targets now ps) h) [
      | inl c ↦ goes.sought y (left_in y c)
      | inr c ↦
          let n = is_new now ps y c in
          goes.free y.name y.level (is_free (y.name, y.level) n.among) ∙ sym (values_now y.name) ∙ ap (substitute eta) (sym n.term)
    ]

    pub along_unify : GoesWith names scene ask course after_branch eta after
    along_unify = record {
      trees = trees_now;
      levels = levels_now;
      free = free_now;
      sought = λ y c. ap (put_entries course.g) (name_stays y c) ∙ sought_before y c;
      values = values_now;
      agrees = goes.agrees;
    }
