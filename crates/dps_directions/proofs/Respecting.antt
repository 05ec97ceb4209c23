-- A branch that a solution goes with to the end is not dropped.
use Rattle.std.proofs.Common.{◌≡◌, ℕ, List, [], ◌∷◌, ◌++◌, map, ◌⊎◌, inl, inr, Some, None, refl, sym, ◌∙◌, ap, arith, subst, Contains}
use Rattle.std.specs.Prelude.{All}
use Rattle.std.specs.List.{flat_map}
use Rattle.dps_terms.specs.Tree.{var, Tree, leaf, IsSubterm}
use Rattle.dps_terms.specs.Replace.{substitute, variables_to}
use Rattle.dps_terms.specs.Variables.{occurrences}
use Rattle.dps_terms.specs.Kinds.{IsBuiltOf, AnySymbol}
use Rattle.dps_terms.proofs.Replacing.{keeps_subterms}
use Rattle.dps_terms.proofs.Building.{leaf_meets}
use Rattle.dps_unify.specs.Order.{level_of}
use Rattle.dps_unify.specs.Matching.{Keeps}
use Rattle.dps_unify.proofs.Trees.{substitute_in_turn, substitute_agrees, substitute_stays}
use Rattle.dps_know.specs.Know.{compositions}
use Rattle.dps_solver.specs.Levels.{IsLeafUpTo, IsTreeUpTo, IsGroundUpTo, AnyRigidName}
use Rattle.dps_solver.specs.Scene.{Disequation, System, Scene, Ask}
use Rattle.dps_solver.specs.Solutions.{Respects, IsSolution, IsNormalUnder, IsMatchedUnder}
use Rattle.dps_solver.specs.Search.{Branch, bindings_of, system_numbers, entry_numbers, disequation_numbers}
use Rattle.dps_directions.specs.Valid.{IsValid, IsComposed, IsPatternLeaf}
use Rattle.dps_directions.proofs.Invariant.{IsOpen, IsBuiltLeaf, IsKept}
use Rattle.dps_directions.proofs.Course.{Course, GoesWith}
use Rattle.dps_directions.proofs.Ahead.{EndsRespect}
use Rattle.dps_know.proofs.Listing.{in_cons, in_head, in_tail, in_none, in_left, in_right, mapped_contains}
use Rattle.dps_directions.proofs.Following.{same_number}
use Rattle.dps_directions.proofs.Composing.{all_of}
use Rattle.dps_directions.proofs.Outcomes.{bindings_at, bindings_else}
use Rattle.dps_directions.proofs.Beginning.{all_in, in_flat}

pub unmapped : {X Y : Type 0} (f : X → Y) (xs : List X) (y : Y) → Contains (map f xs) y → (x : X) × Contains xs x × (y ≡ f x)
unmapped f [] y c = absurd (in_none y c)
unmapped f (x ∷ xs) y c = elim (in_cons y (f x) (map f xs) c) [
  | inl e ↦ (x, in_head x xs, e)
  | inr k ↦ let h = unmapped f xs y k in (h.0, in_tail h.0 x xs h.1, h.2)
]

pub contains_or_not : (ns : List ℕ) (n : ℕ) → Contains ns n ⊎ ¬ Contains ns n
contains_or_not [] n = inr (in_none n)
contains_or_not (m ∷ ns) n = elim (same_number m n) [
  | inl e ↦ inl (subst (λ k. Contains (m ∷ ns) k) e (in_head m ns))
  | inr d ↦ elim (contains_or_not ns n) [
    | inl k ↦ inl (in_tail n m ns k)
    | inr k ↦ inr (λ c. elim (in_cons n m ns c) [ inl e ↦ d (sym e) | inr j ↦ k j ])
  ]
]

abbrev pub pick : {A : Type 0} → A ⊎ ¬ A → Tree → Tree → Tree
pick (inl a) t u = t
pick (inr a) t u = u

pub pick_there : {A : Type 0} (q : A ⊎ ¬ A) (t u : Tree) → A → pick q t u ≡ t
pick_there (inl a) t u h = refl
pick_there (inr a) t u h = absurd (a h)

pub pick_else : {A : Type 0} (q : A ⊎ ¬ A) (t u : Tree) → ¬ A → pick q t u ≡ u
pick_else (inl a) t u h = absurd (h a)
pick_else (inr a) t u h = refl

no_level_in_none : (y k : ℕ) → level_of [] y ≡ Some k → ⊥
no_level_in_none y k e = cc

pub ground_stays : (names : ℕ → Type 0) (system : System) (l : ℕ) (t : Tree) (r : ℕ → Tree) → IsGroundUpTo names system.m system.know l t → substitute r t ≡ t
ground_stays names system l t r up =
    substitute_stays r t (λ n c. let h = leaf_meets (IsLeafUpTo names system.m system.know [] l) AnySymbol up c in absurd (no_level_in_none n h.0 h.1))

-- what stands in trees is no free variable of a disequation
module _ (names : ℕ → Type 0) (scene : Scene) (ask : Ask) (b : Branch) (valid : IsValid names scene) (kept : IsKept scene ask b) where
  free_number : (d : Disequation) (n : ℕ) → Contains scene.system.disequations d → Contains d.free n → Contains (system_numbers scene.system) n
  free_number d n there c =
      let pairs = flat_map (λ (p : Tree × Tree). occurrences p.0 ++ occurrences p.1) d.pairs in
      let here = in_flat disequation_numbers scene.system.disequations d n there (in_left n d.free pairs c) in
      in_right n (map (λ (p : ℕ × ℕ). p.0) scene.system.levels)
      (flat_map entry_numbers scene.system.know.entries ++
      (flat_map occurrences (compositions scene.system.know) ++
      (flat_map occurrences scene.system.know.handles ++ (flat_map occurrences scene.system.labels ++ flat_map disequation_numbers scene.system.disequations))))
      (in_right n (flat_map entry_numbers scene.system.know.entries)
      (flat_map occurrences (compositions scene.system.know) ++
      (flat_map occurrences scene.system.know.handles ++ (flat_map occurrences scene.system.labels ++ flat_map disequation_numbers scene.system.disequations)))
      (in_right n (flat_map occurrences (compositions scene.system.know))
      (flat_map occurrences scene.system.know.handles ++ (flat_map occurrences scene.system.labels ++ flat_map disequation_numbers scene.system.disequations))
      (in_right n (flat_map occurrences scene.system.know.handles) (flat_map occurrences scene.system.labels ++ flat_map disequation_numbers scene.system.disequations)
      (in_right n (flat_map occurrences scene.system.labels) (flat_map disequation_numbers scene.system.disequations) here))))

  pub open_not_free : (d : Disequation) (y l : ℕ) → Contains scene.system.disequations d → IsOpen b y l → ¬ Contains d.free y
  open_not_free d y l there o c = elim (kept.fresh y l o) [
    | inl h ↦ let e : None ≡ Some h.0 = sym (valid.free d there y c) ∙ h.1 in cc
    | inr h ↦ let low = h y (free_number d y there c) in omega (arith, low)
  ]

module _ (names : ℕ → Type 0) (scene : Scene) (ask : Ask) (course : Course names scene ask) (b : Branch) (eta psi : ℕ → Tree) (valid : IsValid names scene)
    (kept : IsKept scene ask b) (goes : GoesWith names scene ask course b eta psi) where
  abbrev s : ℕ → Tree
  s = course.s

  solution : IsSolution names scene.system course.s
  solution = course.solution

  abbrev z : ℕ → Tree
  z = bindings_of scene b

  at_variable : (x l : ℕ) → level_of scene.system.levels x ≡ Some l → substitute psi (z x) ≡ s x
  at_variable x l e = ap (substitute psi) (bindings_at scene b x l e) ∙ goes.trees x (course.among x l e) ∙ course.ends x l e

  same_on : (l : ℕ) (t : Tree) → IsTreeUpTo AnyRigidName scene.system.m scene.system.know scene.system.levels l t → substitute psi (substitute z t) ≡ substitute s t
  same_on l t up =
      substitute_in_turn psi z t
      ∙ substitute_agrees (λ x. substitute psi (z x)) s t
      (λ x c. let h = leaf_meets (IsLeafUpTo AnyRigidName scene.system.m scene.system.know scene.system.levels l) AnySymbol up c in at_variable x h.0 h.1)

  normal_before : (t : Tree) → IsTreeUpTo AnyRigidName scene.system.m scene.system.know scene.system.levels scene.system.m t
      → IsNormalUnder s scene.system (substitute s t) → IsNormalUnder z scene.system (substitute z t)
  normal_before t up normal r c inside =
      let o = unmapped (substitute z) (compositions scene.system.know) r c in
      let built = (all_in (λ (v : Tree). IsComposed v
      × IsTreeUpTo AnyRigidName scene.system.m scene.system.know scene.system.levels scene.system.m v) (compositions scene.system.know) o.0 valid.recorded o.1).1 in
      let after : IsSubterm (substitute psi r) (substitute psi (substitute z t)) = keeps_subterms (variables_to psi) inside in
      let to_s : IsSubterm (substitute s o.0) (substitute s t) =
      subst (λ v. IsSubterm v (substitute s t)) (ap (substitute psi) o.2 ∙ same_on scene.system.m o.0 built)
      (subst (λ v. IsSubterm (substitute psi r) v) (same_on scene.system.m t up) after)
      in normal (substitute s o.0) (mapped_contains (substitute s) (compositions scene.system.know) o.0 o.1) to_s

  labels_normal : All (λ t. IsNormalUnder z scene.system (substitute z t)) scene.system.labels
  labels_normal = all_of (λ (t : Tree). IsNormalUnder z scene.system (substitute z t)) scene.system.labels
      (λ t c. normal_before t (all_in (λ (v : Tree). IsTreeUpTo AnyRigidName scene.system.m scene.system.know scene.system.levels scene.system.m v)
      scene.system.labels t valid.labels c) (all_in (λ (v : Tree). IsNormalUnder s scene.system (substitute s v)) scene.system.labels t solution.respects.labels c))

  module _ (d : Disequation) (there : Contains scene.system.disequations d) (r : ℕ → Tree) (keeps : Keeps d.free r) where
    abbrev r' : ℕ → Tree
    r' x = pick (contains_or_not d.free x) (substitute psi (r x)) (leaf (var x))

    keeps' : Keeps d.free r'
    keeps' n h = pick_else (contains_or_not d.free n) (substitute psi (r n)) (leaf (var n)) h

    r_stays : (x l : ℕ) → level_of scene.system.levels x ≡ Some l → substitute r (z x) ≡ z x
    r_stays x l e =
        subst (λ t. substitute r t ≡ t) (sym (bindings_at scene b x l e))
        (substitute_stays r (b.trees x) (λ n c. let h = leaf_meets (IsBuiltLeaf scene b l) AnySymbol (kept.bindings x l e).leaves c in keeps n (open_not_free names scene ask b valid kept d n h.0 there h.1)))

    at_level : (x l : ℕ) → level_of scene.system.levels x ≡ Some l → substitute r' (s x) ≡ substitute psi (substitute r (z x))
    at_level x l e = ground_stays names scene.system l (s x) r' (solution.choice.trees x l e) ∙ sym (ap (substitute psi) (r_stays x l e) ∙ at_variable x l e)

    at_free : (x : ℕ) → Contains d.free x → substitute r' (s x) ≡ substitute psi (substitute r (z x))
    at_free x c =
        let e = valid.free d there x c in
        ap (substitute r') (solution.choice.others x e)
        ∙ pick_there (contains_or_not d.free x) (substitute psi (r x)) (leaf (var x)) c
        ∙ sym (ap (λ t. substitute psi (substitute r t)) (bindings_else scene b x e))

    at_leaf : (x : ℕ) → IsPatternLeaf scene.system d.free (var x) → substitute r' (s x) ≡ substitute psi (substitute r (z x))
    at_leaf x (inl h) = at_level x h.0 h.1
    at_leaf x (inr h) = let e : x ≡ h.0 = var_is x h.0 h.1 in at_free x (subst (λ n. Contains d.free n) (sym e) h.2)
      where
        var_is : (a c : ℕ) → var a ≡ var c → a ≡ c
        var_is a c q = cc

    matched_pair : (p : Tree × Tree) → Contains d.pairs p → substitute r (substitute z p.1) ≡ substitute z p.0 → substitute r' (substitute s p.1) ≡ substitute s p.0
    matched_pair p c e =
        let up = all_in (λ (q : Tree × Tree). IsTreeUpTo AnyRigidName scene.system.m scene.system.know scene.system.levels scene.system.m q.0)
        d.pairs p (all_in (λ (x : Disequation). All
        (λ (q : Tree × Tree). IsTreeUpTo AnyRigidName scene.system.m scene.system.know scene.system.levels scene.system.m q.0) x.pairs) scene.system.disequations d valid.trees there) c in
        let pattern = all_in (λ (q : Tree × Tree). IsBuiltOf (IsPatternLeaf scene.system d.free) AnySymbol q.1) d.pairs p
        (all_in (λ (x : Disequation). All (λ (q : Tree × Tree). IsBuiltOf (IsPatternLeaf scene.system x.free) AnySymbol q.1) x.pairs) scene.system.disequations d valid.patterns there) c in
        substitute_in_turn r' s p.1
        ∙ substitute_agrees (λ x. substitute r' (s x)) (λ x. substitute psi (substitute r (z x))) p.1 (λ x k. at_leaf x (leaf_meets (IsPatternLeaf scene.system d.free) AnySymbol pattern k))
        ∙ sym (substitute_in_turn (λ x. substitute psi (r x)) z p.1 ∙ substitute_agrees (λ x. substitute (λ y. substitute psi (r y)) (z x))
        (λ x. substitute psi (substitute r (z x))) p.1 (λ x k. sym (substitute_in_turn psi r (z x))))
        ∙ sym (substitute_in_turn psi r (substitute z p.1))
        ∙ ap (substitute psi) e
        ∙ same_on scene.system.m p.0 up

  unmatched : (d : Disequation) → Contains scene.system.disequations d → ¬ IsMatchedUnder z d
  unmatched d there m =
      all_in (λ (x : Disequation). ¬ IsMatchedUnder s x) scene.system.disequations d solution.respects.disequations there (
        r' d there m.0 m.1,
        keeps' d there m.0 m.1,
        all_of (λ (q : Tree × Tree). substitute (r' d there m.0 m.1) q.1 ≡ q.0)
            (map (λ (p : Tree × Tree). (substitute s p.0, substitute s p.1)) d.pairs) each,
      )
    where
      each : (q : Tree × Tree) → Contains (map (λ (p : Tree × Tree). (substitute s p.0, substitute s p.1)) d.pairs) q → substitute (r' d there m.0 m.1) q.1 ≡ q.0
      each q c =
          let o = unmapped (λ (p : Tree × Tree). (substitute s p.0, substitute s p.1)) d.pairs q c in
          let before = all_in (λ (v : Tree × Tree). substitute m.0 v.1 ≡ v.0)
          (map (λ (p : Tree × Tree). (substitute z p.0, substitute z p.1)) d.pairs) (substitute z o.0.0, substitute z o.0.1) m.2
          (mapped_contains (λ (p : Tree × Tree). (substitute z p.0, substitute z p.1)) d.pairs o.0 o.1) in
          subst (λ (v : Tree × Tree). substitute (r' d there m.0 m.1) v.1 ≡ v.0) (sym o.2) (matched_pair d there m.0 m.1 o.0 o.1 before)

  pub respected : Respects scene.system z
  respected = record { labels = labels_normal; disequations = all_of (λ (d : Disequation). ¬ IsMatchedUnder z d) scene.system.disequations unmatched }

pub ends_respect : (names : ℕ → Type 0) (scene : Scene) (ask : Ask) → EndsRespect names scene ask
ends_respect names scene ask = λ course b eta psi valid fits kept goes e. respected names scene ask course b eta psi valid kept goes
