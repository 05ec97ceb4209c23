-- From the first solution back over each way.
use Rattle.std.proofs.Common.{◌≡◌, ℕ, ◌+◌, ◌≤◌, List, [], ◌∷◌, ◌++◌, length, ◌⊎◌, inl, inr, Some, refl, sym, ◌∙◌, ap, arith, subst, Contains}
use Rattle.std.specs.Prelude.{◌≢◌}
use Rattle.std.specs.List.{range_with_len}
use Rattle.dps_terms.specs.Tree.{Leaf, public, private, var, ax, entry, rigid, Tree, Trees, leaf, app, none, more, list_of, IsSubterm, IsAmong, in_first, in_rest}
use Rattle.dps_terms.specs.Replace.{replace, replace_all, substitute, substitute_all, put_entries, entries_to, variables_to, numbered}
use Rattle.dps_terms.specs.Views.{arguments}
use Rattle.dps_terms.specs.Bindings.{image}
use Rattle.dps_terms.specs.Kinds.{AnySymbol}
use Rattle.dps_terms.proofs.Replacing.{replace_all_in_turn}
use Rattle.dps_directions.proofs.Following.{app_cases}
use Rattle.dps_terms.proofs.Building.{leaf_meets}
use Rattle.dps_unify.specs.Order.{level_of}
use Rattle.dps_unify.specs.Unifier.{IsMgu}
use Rattle.dps_unify.proofs.Bound.{single}
use Rattle.dps_unify.proofs.Trees.{in_leaf, substitute_in_turn, substitute_stays}
use Rattle.dps_know.specs.Know.{IsThere}
use Rattle.dps_know.proofs.Listing.{in_head, in_tail, in_left, in_right}
use Rattle.dps_solver.specs.Levels.{IsVariableUpTo, IsEntryUpTo, IsGroundUpTo, AnyRigidName}
use Rattle.dps_solver.specs.Scene.{Scene, Ask}
use Rattle.dps_solver.specs.declared.scene.Target.{Target}
use Rattle.dps_solver.specs.Solutions.{IsSolution, valued, IsValuation}
use Rattle.dps_solver.specs.Search.{GeneralSolution, IsPlain, Branch, with_tree, lowered, composed, root_over, entry_equation, AreNewlyBound}
use Rattle.dps_solver.proofs.Bindings.{here, elsewhere}
use Rattle.dps_directions.specs.Valid.{IsValid}
use Rattle.dps_directions.proofs.Invariant.{IsFree, IsOpen, IsBuiltLeaf, IsKept}
use Rattle.dps_directions.proofs.Course.{GoesWith}
use Rattle.dps_directions.proofs.Valuations.{ground_above}
use Rattle.dps_directions.proofs.First.{ground_built}
use Rattle.dps_directions.proofs.Following.{open_cases, level_below_m}
use Rattle.dps_directions.proofs.Lowering.{same_var, same_some, not_z, theta_w}
use Rattle.dps_directions.proofs.Composing.{kids, names_as_trees, IsComposable, put_z}
use Rattle.dps_directions.proofs.NewlyBound.{new_targets, moves, moves_else, after_all}
use Rattle.dps_directions.proofs.Unifying.{back}
use Rattle.dps_directions.proofs.Ways.{inside, put_now, equal_now}
use Rattle.dps_directions.proofs.AlongStart.{ground_any}
use Rattle.dps_directions.proofs.AlongUse.{entry_value}
use Rattle.dps_directions.proofs.PlainStill.{IsStill, StaysStill}
use Rattle.dps_directions.proofs.Heads.{IsApart, IsHead, leaf_apart, course, head_back, with_entry, goes_with_entry}

-- the value of what is composed
kids_value : (m : Leaf → Tree) (eta : ℕ → Tree) (z : Target) (n : ℕ) (ts : Trees)
    → ((y : Target) → Contains (kids z n (list_of ts)) y → m (var y.name) ≡ substitute eta y.term)
    → replace_all m (names_as_trees n (length (list_of ts))) ≡ substitute_all eta ts
kids_value m eta z n none h = refl
kids_value m eta z n (more t ts) h =
    let first = h (record { name = n; level = z.level; term = t }) (in_head (record { name = n; level = z.level; term = t }) (kids z (n + 1) (list_of ts))) in
    let rest = kids_value m eta z (n + 1) ts (λ y c. h y (in_tail y (record { name = n; level = z.level; term = t }) (kids z (n + 1) (list_of ts)) c)) in
    λ i. more (first i) (rest i)

composed_value : (g : List Tree) (eta f : ℕ → Tree) (m l : ℕ) (z : Target) (n : ℕ) (t : Tree) → IsComposable m l t
    → ((y : Target) → Contains (kids z n (arguments t)) y → put_entries g (f y.name) ≡ substitute eta y.term)
    → put_entries g (substitute f (root_over t (range_with_len n (length (arguments t))))) ≡ substitute eta t
composed_value g eta f m l z n (leaf (public a)) r h = refl
composed_value g eta f m l z n (leaf (rigid k)) r h = refl
composed_value g eta f m l z n (leaf (private a)) r h = absurd r
composed_value g eta f m l z n (leaf (var a)) r h = absurd r
composed_value g eta f m l z n (leaf (ax a)) r h = absurd r
composed_value g eta f m l z n (leaf (entry a)) r h = absurd r
composed_value g eta f m l z n (app s ts) r h =
    ap (app s)
    (replace_all_in_turn (variables_to f) (entries_to g) (names_as_trees n (length (list_of ts)))
    ∙ kids_value (λ x. replace (entries_to g) (variables_to f x)) eta z n ts h)

-- the parts of what is composed
abbrev IsKidPart : (ℕ → Tree) → Target → ℕ → List Tree → Tree → Type 0
IsKidPart f z n ts u = (y : Target) × Contains (kids z n ts) y × IsSubterm u (f y.name)

among_kids : (f : ℕ → Tree) (z : Target) (n : ℕ) (ts : List Tree) (u : Tree) → IsAmong u (replace_all (variables_to f) (names_as_trees n (length ts))) → IsKidPart f z n ts u
among_kids f z n [] u h = elim h [ ]
among_kids f z n (t ∷ ts) u (in_first h) =
    (record { name = n; level = z.level; term = t }, in_head (record { name = n; level = z.level; term = t }) (kids z (n + 1) ts), h)
among_kids f z n (t ∷ ts) u (in_rest h) =
    let k = among_kids f z (n + 1) ts u h in (k.0, in_tail k.0 (record { name = n; level = z.level; term = t }) (kids z (n + 1) ts) k.1, k.2)

composed_parts : (f : ℕ → Tree) (m l : ℕ) (z : Target) (n : ℕ) (t u : Tree) → IsComposable m l t
    → IsSubterm u (substitute f (root_over t (range_with_len n (length (arguments t)))))
    → (u ≡ substitute f (root_over t (range_with_len n (length (arguments t))))) ⊎ IsKidPart f z n (arguments t) u
composed_parts f m l z n (leaf (public a)) u r h = inl (in_leaf (public a) u h)
composed_parts f m l z n (leaf (rigid a)) u r h = inl (in_leaf (rigid a) u h)
composed_parts f m l z n (leaf (private a)) u r h = absurd r
composed_parts f m l z n (leaf (var a)) u r h = absurd r
composed_parts f m l z n (leaf (ax a)) u r h = absurd r
composed_parts f m l z n (leaf (entry a)) u r h = absurd r
composed_parts f m l z n (app s ts) u r h = elim (app_cases u s (replace_all (variables_to f) (names_as_trees n (length (list_of ts)))) h) [
  | inl e ↦ inl e
  | inr k ↦ inr (among_kids f z n (list_of ts) u k)
]

module _ (names : ℕ → Type 0) (scene : Scene) (ask : Ask) (valid : IsValid names scene) (s : ℕ → Tree) (g : List Tree) (solves : IsSolution names scene.system s)
    (valuation : IsValuation scene s g) (first : GeneralSolution) (plain : IsPlain first) (b : Branch) (z : Target) (rest : List Target)
    (kept : IsKept scene ask b) (is : b.targets ≡ z ∷ rest) (stays : StaysStill scene b) where
  abbrev eta : ℕ → Tree
  eta = valued g s

  abbrev Head : Branch → Type 0
  Head c = IsHead names scene ask (course names scene ask valid s g solves valuation first plain) first c

  pub below_m : (x l : ℕ) → level_of scene.system.levels x ≡ Some l → l ≤ scene.system.m
  below_m = level_below_m names scene valid

  abbrev Ground : ℕ → Tree → Type 0
  Ground l t = IsGroundUpTo AnyRigidName scene.system.m scene.system.know l t

  unmoved : IsStill scene b → (t : Tree) → substitute b.theta t ≡ t
  unmoved rests t = substitute_stays b.theta t (λ n k. rests.theta n)

  still_open : (y l : ℕ) → y ≢ z.name → IsOpen b y l → ((x : Target) × Contains rest x × (x.name ≡ y) × (x.level ≡ l)) ⊎ IsFree b y l
  still_open y l d o = elim (open_cases scene ask b z rest kept is y l o) [ inl e ↦ absurd (d e.0) | inr e ↦ e.1 ]

  -- a variable
  pub follow_head : (w : ℕ) → substitute b.theta z.term ≡ leaf (var w) → IsVariableUpTo b.levels z.level w → Head (with_tree b z rest (leaf (var w))) → Head b
  follow_head w term up head =
      let rests = stays (λ x l e. head.still.theta x) in
      let of_scene = rests.levels w up.0 up.1 in
      let p = image (single z.name (leaf (var w))) in
      let term_is : z.term ≡ leaf (var w) = sym (unmoved rests z.term) ∙ term in
      let rho_z : substitute head.rho (p z.name) ≡ leaf (var w) =
      ap (substitute head.rho) (here z.name (leaf (var w))) ∙ head.fixed w of_scene.0 of_scene.1 in
      let level : of_scene.0 ≡ up.0 = same_some of_scene.0 up.0 (sym (kept.levels w of_scene.0 of_scene.1) ∙ up.1) in
      let ground : Ground z.level (s w) =
      ground_above AnyRigidName scene.system.m scene.system.know of_scene.0 z.level (s w) (omega (arith, level, up.2))
      (ground_any names scene.system.m scene.system.know of_scene.0 (s w) (solves.choice.trees w of_scene.0 of_scene.1)) in
      head_back names scene ask valid s g solves valuation first plain b (with_tree b z rest (leaf (var w))) z rest kept is rests head p (λ x. refl)
      (λ y d. elsewhere z.name (leaf (var w)) y d) (λ y l d o. still_open y l d o) (λ y l f. f) (λ y k. k)
      (subst (Ground z.level) (sym (ap (substitute s) rho_z)) ground)
      (ap (λ t. put_entries g (substitute s t)) rho_z ∙ sym (ap (substitute eta) term_is))
      (subst (IsApart scene s g) (sym rho_z) (leaf_apart scene s g (leaf (var w)) (λ h. h) (λ u h. in_leaf (var w) u h)))

  -- no variable is lowered
  pub no_lower : (w : ℕ) → substitute b.theta z.term ≡ leaf (var w) → ¬ IsVariableUpTo b.levels z.level w → ¬ Head (lowered b z rest w)
  no_lower w term high head =
      not_z scene ask b z rest kept is w term high below_m
      (same_var w z.name (sym (head.still.theta w) ∙ theta_w scene ask b z rest kept is w term high below_m))

  -- an entry
  module _ (i : ℕ) (u : List (ℕ × Tree)) (mgu : IsMgu b.levels (entry_equation scene b z i) u) (there : IsEntryUpTo scene.system.know z.level i) (ps : List (ℕ × ℕ)) where
    abbrev th : ℕ → Tree
    th = put_now scene ask b z rest kept is i u mgu there below_m

    abbrev used : Branch
    used = after_all th ps (record (with_tree b z rest (leaf (entry i))) { theta = th })

    abbrev base : ℕ → Tree
    base = image (single z.name (leaf (entry i)))

    abbrev p : ℕ → Tree
    p y = substitute (moves th ps) (base y)

    p_z : p z.name ≡ leaf (entry i)
    p_z = ap (substitute (moves th ps)) (here z.name (leaf (entry i)))

    pub use_head : AreNewlyBound b.levels b.theta th ps → Head used → Head b
    use_head newly head =
        let known = inside scene ask b z rest kept is i u mgu there below_m in
        let rests = stays (λ x l e. back scene ask b kept u (entry_equation scene b z i) mgu known x (head.still.theta x)) in
        let none_bound : (q : ℕ × ℕ) → ¬ Contains ps q = λ q c. ((newly.those q).0 c).2 (head.still.theta q.0) in
        let fixed : (t : Tree) → substitute th t ≡ t = λ t. substitute_stays th t (λ n k. head.still.theta n) in
        let value = numbered scene.values i (leaf (entry i)) in
        let value_is : value ≡ z.term = sym (fixed value) ∙ equal_now scene ask b z rest kept is i u mgu there below_m ∙ fixed z.term in
        let rho_z : substitute head.rho (p z.name) ≡ leaf (entry i) = ap (substitute head.rho) p_z in
        head_back names scene ask valid s g solves valuation first plain b used z rest kept is rests head p
        (λ x. substitute_in_turn (moves th ps) base (b.trees x))
        (λ y d. ap (substitute (moves th ps)) (elsewhere z.name (leaf (entry i)) y d) ∙ moves_else th ps y (λ q c e. none_bound q c))
        (λ y l d o. elim (still_open y l d o) [
          | inl q ↦ inl (q.0, in_left q.0 rest (new_targets th ps) q.1, q.2, q.3)
          | inr f ↦ inr (f.0, head.still.theta y)
        ])
        (λ y l f. (f.0, head.still.theta y)) (λ y k. in_left y rest (new_targets th ps) k)
        (subst (Ground z.level) (sym (ap (substitute s) rho_z)) there)
        (ap (λ t. put_entries g (substitute s t)) rho_z
        ∙ entry_value names scene ask valid (course names scene ask valid s g solves valuation first plain) eta (λ x l e. refl) i
        ∙ ap (substitute eta) value_is)
        (subst (IsApart scene s g) (sym rho_z) (leaf_apart scene s g (leaf (entry i)) (λ h. h) (λ v h. in_leaf (entry i) v h)))

  -- a root that is composed, where no entry could be used
  abbrev pub NoEntry : Type 0
  NoEntry = (i : ℕ) (psi : ℕ → Tree) → psi z.name ≡ leaf (entry i) → ¬ GoesWith names scene ask (course names scene ask valid s g solves valuation first plain) b eta psi

  module _ (root : IsComposable scene.system.m z.level (substitute b.theta z.term)) (head : Head (composed b z rest (substitute b.theta z.term))) (never : NoEntry) where
    abbrev t : Tree
    t = substitute b.theta z.term

    abbrev tree : Tree
    tree = root_over t (range_with_len b.next (length (arguments t)))

    abbrev q : ℕ → Tree
    q = image (single z.name tree)

    abbrev later : ℕ → Tree
    later y = substitute s (head.rho y)

    rests : IsStill scene b
    rests = stays (λ x l e. head.still.theta x)

    rho_z : substitute head.rho (q z.name) ≡ substitute head.rho tree
    rho_z = ap (substitute head.rho) (here z.name tree)

    psi_z : substitute s (substitute head.rho (q z.name)) ≡ substitute later tree
    psi_z = ap (substitute s) rho_z ∙ substitute_in_turn s head.rho tree

    kid_in : (y : Target) → Contains (kids z b.next (arguments t)) y → Contains (kids z b.next (arguments t) ++ rest) y
    kid_in y c = in_left y (kids z b.next (arguments t)) rest c

    ground : Ground z.level (substitute later tree)
    ground =
        let leaves = (put_z scene ask b z rest kept is root below_m).leaves in
        ground_built scene (composed b z rest t) AnyRigidName z.level later tree leaves
        (λ y c.
        let o = leaf_meets (IsBuiltLeaf scene (composed b z rest t) z.level) AnySymbol leaves c in
        ground_above AnyRigidName scene.system.m scene.system.know o.0 z.level (later y) o.2 (head.goes.levels y o.0 o.1))
        (λ k c. tt)

    value_is : put_entries g (substitute later tree) ≡ substitute eta z.term
    value_is =
        composed_value g eta later scene.system.m z.level z b.next t root (λ y c. head.goes.sought y (kid_in y c))
        ∙ ap (substitute eta) (unmoved rests z.term)

    open_now : (y l : ℕ) → y ≢ z.name → IsOpen b y l → IsOpen (composed b z rest t) y l
    open_now y l d o = elim (still_open y l d o) [
      | inl k ↦ inl (k.0, in_right k.0 (kids z b.next (arguments t)) rest k.1, k.2, k.3)
      | inr f ↦ inr f
    ]

    rest_now : (y : Target) → Contains rest y → Contains (kids z b.next (arguments t) ++ rest) y
    rest_now y k = in_right y (kids z b.next (arguments t)) rest k

    ground_z : Ground z.level (substitute s (substitute head.rho (q z.name)))
    ground_z = subst (Ground z.level) (sym psi_z) ground

    value_z : put_entries g (substitute s (substitute head.rho (q z.name))) ≡ substitute eta z.term
    value_z = ap (put_entries g) psi_z ∙ value_is

    whole_apart : (u : Tree) → u ≡ substitute head.rho tree → (i : ℕ) → IsThere scene.system.know i → put_entries g (substitute s u) ≢ put_entries g (leaf (entry i))
    whole_apart u e i there same =
        let equal = ap (λ v. put_entries g (substitute s v)) (rho_z ∙ sym e) ∙ same in
        let h = goes_with_entry names scene ask valid s g solves valuation first plain b (composed b z rest t) z rest kept is rests head q (λ x. refl)
        (λ y d. elsewhere z.name tree y d) open_now (λ y l f. f) rest_now ground_z value_z i there equal in
        never i
        (with_entry names scene ask valid s g solves valuation first plain b (composed b z rest t) z rest kept is rests head q (λ x. refl)
        (λ y d. elsewhere z.name tree y d) open_now (λ y l f. f) rest_now ground_z value_z i) h.0 h.1

    tree_apart : IsApart scene s g (substitute head.rho tree)
    tree_apart u inside is_composed i there same = elim (composed_parts head.rho scene.system.m z.level z b.next t u root inside) [
      | inl e ↦ whole_apart u e i there same
      | inr k ↦ head.apart k.0 (kid_in k.0 k.1) u k.2 is_composed i there same
    ]

    pub compose_head : Head b
    compose_head =
        head_back names scene ask valid s g solves valuation first plain b (composed b z rest t) z rest kept is rests head q (λ x. refl)
        (λ y d. elsewhere z.name tree y d) open_now (λ y l f. f) rest_now ground_z value_z
        (subst (IsApart scene s g) (sym rho_z) tree_apart)
