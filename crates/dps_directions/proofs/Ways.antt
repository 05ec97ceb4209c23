-- Each way keeps the invariant.
use Rattle.std.proofs.Common.{
  ◌≡◌,
  ℕ,
  zero,
  suc,
  ◌+◌,
  ◌≤◌,
  List,
  [],
  ◌∷◌,
  ◌++◌,
  ◌⊎◌,
  inl,
  inr,
  Bool,
  true,
  false,
  Option,
  Some,
  None,
  refl,
  sym,
  ◌∙◌,
  ap,
  arith,
  subst,
  Contains,
  AllPairs,
  leb-true,
}
use Rattle.std.specs.Prelude.{◌≢◌, slice_get, unwrap_or, nat_le, nat_eq, if◌then◌else◌}
use Rattle.dps_terms.specs.Tree.{public, private, var, ax, entry, rigid, Tree, leaf, app, StandsIn}
use Rattle.dps_terms.specs.Replace.{substitute, numbered}
use Rattle.dps_terms.specs.Bindings.{image}
use Rattle.dps_unify.specs.Order.{level_of}
use Rattle.dps_unify.specs.Unifier.{IsMgu, IsVariableOf}
use Rattle.dps_unify.proofs.Bound.{single}
use Rattle.dps_unify.proofs.Pairs.{unifies_one, any_cases, any_none}
use Rattle.dps_unify.proofs.Trees.{in_leaf, substitute_in_turn}
use Rattle.dps_know.specs.declared.know.Entry.{Entry}
use Rattle.dps_solver.specs.Levels.{IsEntryUpTo}
use Rattle.dps_solver.specs.Scene.{System, Scene, Ask}
use Rattle.dps_solver.specs.declared.scene.Target.{Target}
use Rattle.dps_solver.specs.Search.{Branch, Way, follow, use_entry, compose, ways, entry_ways, entry_equation, with_tree, with_bound, AreNewlyBound, Leads, follows, lowers, uses, composes}
use Rattle.dps_directions.proofs.Invariant.{IsOpen, IsFree, IsTermOf, value_of, sought_for, IsKept}
use Rattle.dps_directions.proofs.Steps.{WaysKeep}
use Rattle.dps_solver.proofs.Bindings.{here, elsewhere}
use Rattle.dps_know.proofs.Listing.{in_cons, in_head, in_tail, in_none, in_append}
use Rattle.dps_directions.proofs.Following.{distinct_tail, distinct_head, first_in, rest_in, name_not_free, open_cases, follows_keep, level_below_m}
use Rattle.dps_directions.proofs.Lowering.{lowers_keep}
use Rattle.dps_directions.proofs.Composing.{composable, composes_keep}
use Rattle.dps_directions.proofs.Unifying.{th, later, unified_keep, IsLeft, IsEntryNow}
use Rattle.dps_directions.proofs.NewlyBound.{bound_is, after_all}

-- an entry that is used is there, and has at most the level
abbrev IsAtOffset : List Entry → ℕ → ℕ → ℕ → Type 0
IsAtOffset es l n i = (j : ℕ) × (e : Entry) × (slice_get es j ≡ Some e) × (i ≡ n + j) × (e.level ≤ l)

one_later : (es : List Entry) (d : Entry) (l n i : ℕ) → IsAtOffset es l (n + 1) i → IsAtOffset (d ∷ es) l n i
one_later es d l n i h = (suc h.0, h.1, h.2, omega (arith, h.3), h.4)

same_entry : (i j : ℕ) → use_entry i ≡ use_entry j → i ≡ j
same_entry i j e = cc

entry_there : (l n i : ℕ) (es : List Entry) → Contains (entry_ways l n es) (use_entry i) → IsAtOffset es l n i
entry_there l n i [] c = absurd (in_none (use_entry i) c)
entry_there l n i (d ∷ es) c = at (nat_le d.level l) refl c (λ k. one_later es d l n i (entry_there l (n + 1) i es k))
  where
    at : (q : Bool) → nat_le d.level l ≡ q → Contains (if q then use_entry n ∷ entry_ways l (n + 1) es else entry_ways l (n + 1) es) (use_entry i)
        → (Contains (entry_ways l (n + 1) es) (use_entry i) → IsAtOffset (d ∷ es) l n i) → IsAtOffset (d ∷ es) l n i
    at false e k f = f k
    at true e k f = elim (in_cons (use_entry i) (use_entry n) (entry_ways l (n + 1) es) k) [
      | inl h ↦ (0, d, refl, omega (arith, same_entry i n h), leb-true d.level l e)
      | inr h ↦ f h
    ]

not_compose : (i : ℕ) → ¬ Contains (compose ∷ []) (use_entry i)
not_compose i c = elim (in_cons (use_entry i) compose [] c) [ inl e ↦ cc | inr k ↦ in_none (use_entry i) k ]

from_ways : (l i : ℕ) (es : List Entry) (ws : List Way) → ¬ Contains ws (use_entry i) → Contains (entry_ways l 1 es ++ ws) (use_entry i) → IsAtOffset es l 1 i
from_ways l i es ws h c = elim (in_append (use_entry i) (entry_ways l 1 es) ws c) [ inl k ↦ entry_there l 1 i es k | inr k ↦ absurd (h k) ]

not_rigid : (i : ℕ) (q : Bool) → ¬ Contains (if q then compose ∷ [] else []) (use_entry i)
not_rigid i true c = not_compose i c
not_rigid i false c = in_none (use_entry i) c

offset_of : (system : System) (l i : ℕ) (t : Tree) → Contains (ways system l t) (use_entry i) → IsAtOffset system.know.entries l 1 i
offset_of system l i (leaf (var w)) c = elim (in_cons (use_entry i) follow [] c) [ inl e ↦ cc | inr k ↦ absurd (in_none (use_entry i) k) ]
offset_of system l i (leaf (public n)) c = from_ways l i system.know.entries (compose ∷ []) (not_compose i) c
offset_of system l i (leaf (rigid k)) c = from_ways l i system.know.entries (if nat_eq l system.m then compose ∷ [] else []) (not_rigid i (nat_eq l system.m)) c
offset_of system l i (leaf (private n)) c = entry_there l 1 i system.know.entries c
offset_of system l i (leaf (ax n)) c = entry_there l 1 i system.know.entries c
offset_of system l i (leaf (entry n)) c = entry_there l 1 i system.know.entries c
offset_of system l i (app f ts) c = from_ways l i system.know.entries (compose ∷ []) (not_compose i) c

pub used_entry : (system : System) (l i : ℕ) (t : Tree) → Contains (ways system l t) (use_entry i) → IsEntryUpTo system.know l i
used_entry system l i t c =
    let h = offset_of system l i t c in
    subst (IsEntryUpTo system.know l) (let e : suc h.0 ≡ i = omega (arith, h.3) in e) (h.1, h.2, h.4)

pub slice_contains : {X : Type 0} (xs : List X) (k : ℕ) (x : X) → slice_get xs k ≡ Some x → Contains xs x
slice_contains [] k x e = cc
slice_contains (y ∷ xs) zero x e = let d : y ≡ x = cc in subst (λ z. Contains (y ∷ xs) z) d (in_head y xs)
slice_contains (y ∷ xs) (suc k) x e = in_tail x y xs (slice_contains xs k x e)

pub not_in_entry : (n i : ℕ) → ¬ StandsIn (var n) (leaf (entry i))
not_in_entry n i h = let e = in_leaf (entry i) (leaf (var n)) h in cc

module _ (scene : Scene) (ask : Ask) (b : Branch) (z : Target) (rest : List Target) (kept : IsKept scene ask b) (is : b.targets ≡ z ∷ rest) (i : ℕ)
    (u : List (ℕ × Tree)) (mgu : IsMgu b.levels (entry_equation scene b z i) u) (there : IsEntryUpTo scene.system.know z.level i)
    (below_m : (x l : ℕ) → level_of scene.system.levels x ≡ Some l → l ≤ scene.system.m) where
  value_term : (o : Option Tree) (k n : ℕ) → slice_get scene.values k ≡ o
      → StandsIn (var n) (substitute b.theta (unwrap_or o (leaf (entry (suc k))))) → (t : Tree) × IsTermOf scene ask b t × StandsIn (var n) (substitute b.theta t)
  value_term None k n e c = absurd (not_in_entry n (suc k) c)
  value_term (Some v) k n e c = (v, value_of (slice_contains scene.values k v e), c)

  entry_term : (j n : ℕ) → StandsIn (var n) (substitute b.theta (numbered scene.values j (leaf (entry j)))) → (t : Tree) × IsTermOf scene ask b t × StandsIn (var n) (substitute b.theta t)
  entry_term zero n c = absurd (not_in_entry n zero c)
  entry_term (suc k) n c = value_term (slice_get scene.values k) k n refl c

  pub inside : (n : ℕ) → IsVariableOf (entry_equation scene b z i) n → (t : Tree) × IsTermOf scene ask b t × StandsIn (var n) (substitute b.theta t)
  inside n h =
      elim (any_cases (λ (q : Tree × Tree). StandsIn (var n) q.0 ⊎ StandsIn (var n) q.1) (substitute b.theta (numbered scene.values i (leaf (entry i))), substitute b.theta z.term) [] h) [
        | inl k ↦ elim k [
          | inl c ↦ entry_term i n c
          | inr c ↦ (z.term, sought_for (first_in scene ask b z rest kept is), c)
        ]
        | inr k ↦ absurd (any_none (λ (q : Tree × Tree). StandsIn (var n) q.0 ⊎ StandsIn (var n) q.1) k)
      ]

  abbrev base : ℕ → Tree
  base = image (single z.name (leaf (entry i)))

  abbrev pub put_now : ℕ → Tree
  put_now = th scene ask b kept u (entry_equation scene b z i) mgu inside

  pub equal_now : substitute put_now (numbered scene.values i (leaf (entry i))) ≡ substitute put_now z.term
  equal_now =
      sym (substitute_in_turn (image u) b.theta (numbered scene.values i (leaf (entry i))))
      ∙ (unifies_one (image u) (substitute b.theta (numbered scene.values i (leaf (entry i))), substitute b.theta z.term)).0 mgu.unifies
      ∙ substitute_in_turn (image u) b.theta z.term

  pub distinct_all : AllPairs (λ (x v : Target). x.name ≢ v.name) (z ∷ rest)
  distinct_all = subst (λ ts. AllPairs (λ (x v : Target). x.name ≢ v.name) ts) is kept.distinct

  at_name : IsEntryNow scene put_now kept.means base z.name z.level
  at_name = (
    i,
    here z.name (leaf (entry i)),
    there,
    equal_now ∙ sym
        (later scene ask b kept u (entry_equation scene b z i) mgu inside (kept.means z.name) z.term (kept.means_sought z (first_in scene ask b z rest kept is))),
  )

  pub cases : (y k : ℕ) → IsOpen b y k → IsLeft rest y k ⊎ (IsFree b y k ⊎ IsEntryNow scene put_now kept.means base y k)
  cases y k o = elim (open_cases scene ask b z rest kept is y k o) [
    | inl d ↦ inr (inr (subst (λ n. IsEntryNow scene put_now kept.means base n k) (sym d.0) (subst (λ n. IsEntryNow scene put_now kept.means base z.name n) (sym d.1) at_name)))
    | inr d ↦ elim d.1 [ inl h ↦ inl h | inr f ↦ inr (inl f) ]
  ]

  pub uses_keep : (ps : List (ℕ × ℕ)) → AreNewlyBound b.levels b.theta put_now ps → IsKept scene ask (after_all put_now ps (record (with_tree b z rest (leaf (entry i))) { theta = put_now }))
  uses_keep ps newly =
      unified_keep scene ask b kept u (entry_equation scene b z i) mgu inside ps newly rest base
      (λ y c. rest_in scene ask b z rest kept is y c) (distinct_tail z rest distinct_all)
      (λ y k h. elsewhere z.name (leaf (entry i)) y (λ d. distinct_head z h.0 rest distinct_all h.1 (sym d ∙ sym h.2)))
      (λ y k f. elsewhere z.name (leaf (entry i)) y (λ d. name_not_free scene ask b z rest kept is k (subst (λ n. IsFree b n k) d f)))
      cases below_m

way_keeps : (scene : Scene) (ask : Ask) (b c : Branch) (z : Target) (rest : List Target) {w : Way} (kept : IsKept scene ask b)
    (is : b.targets ≡ z ∷ rest) (below_m : (x l : ℕ) → level_of scene.system.levels x ≡ Some l → l ≤ scene.system.m)
    → Contains (ways scene.system z.level (substitute b.theta z.term)) w → Leads scene b z rest w c → IsKept scene ask c
way_keeps scene ask b c z rest kept is below_m among (follows {w = w} e h q) = subst (IsKept scene ask) (sym q) (follows_keep scene ask b z rest kept is w e h below_m)
way_keeps scene ask b c z rest kept is below_m among (lowers {w = w} e h q) = subst (IsKept scene ask) (sym q) (lowers_keep scene ask b z rest kept is w e h below_m)
way_keeps scene ask b c z rest kept is below_m among (composes q) =
    subst (IsKept scene ask) (sym q) (composes_keep scene ask b z rest kept is (composable scene.system z.level (substitute b.theta z.term) among) below_m)
way_keeps scene ask b c z rest kept is below_m among (uses {i = i} {u = u} {theta = theta} {bound = bound} mgu e newly q) =
    let there = used_entry scene.system z.level i (substitute b.theta z.term) among in
    let to = q ∙ ap (λ f. with_bound bound (record (with_tree b z rest (leaf (entry i))) { theta = f })) e ∙ bound_is bound
    (record (with_tree b z rest (leaf (entry i))) { theta = (λ x. substitute (image u) (b.theta x)) }) in
    subst (IsKept scene ask) (sym to)
    (uses_keep scene ask b z rest kept is i u mgu there below_m bound (subst (λ f. AreNewlyBound b.levels b.theta f bound) e newly))

pub ways_keep : (names : ℕ → Type 0) (scene : Scene) (ask : Ask) → WaysKeep names scene ask
ways_keep names scene ask = λ b c z rest w valid fits kept is among leads.
    way_keeps scene ask b c z rest kept is (level_below_m names scene valid) among leads
