-- A solution goes along where an entry is the first target's tree.
use Rattle.std.proofs.Common.{◌≡◌, ℕ, zero, suc, ◌≤◌, List, ◌∷◌, inl, inr, Option, None, Some, refl, sym, ◌∙◌, ap, subst, Contains}
use Rattle.std.specs.Prelude.{slice_get, unwrap_or, IsSome}
use Rattle.dps_terms.specs.Tree.{var, entry, Tree, leaf, StandsIn}
use Rattle.dps_terms.specs.Replace.{substitute, put_entries, numbered}
use Rattle.dps_terms.specs.Bindings.{image}
use Rattle.dps_terms.specs.Kinds.{IsBuiltOf, AnySymbol}
use Rattle.dps_terms.proofs.Building.{leaf_meets}
use Rattle.dps_unify.specs.Order.{level_of}
use Rattle.dps_unify.specs.Unifier.{Unifies, IsMgu}
use Rattle.dps_unify.proofs.Bound.{single}
use Rattle.dps_unify.proofs.Pairs.{unifies_one}
use Rattle.dps_unify.proofs.Trees.{substitute_agrees}
use Rattle.dps_solver.specs.Levels.{IsEntryUpTo, IsGroundUpTo, AnyRigidName}
use Rattle.dps_solver.specs.Scene.{Scene, Ask}
use Rattle.dps_solver.specs.declared.scene.Target.{Target}
use Rattle.dps_solver.specs.Solutions.{valued}
use Rattle.dps_solver.specs.Search.{Branch, use_entry, entry_equation, with_tree, with_bound, AreNewlyBound, Leads, uses}
use Rattle.dps_solver.proofs.Bindings.{here, elsewhere}
use Rattle.dps_directions.specs.Valid.{IsValid, IsValueLeaf}
use Rattle.dps_directions.proofs.Invariant.{IsFree, IsKept}
use Rattle.dps_directions.proofs.Course.{Course, GoesWith, GoesAlong, under}
use Rattle.dps_directions.proofs.Valuations.{numbered-map}
use Rattle.dps_directions.proofs.Following.{same_number, first_in, rest_in, name_not_free, distinct_head, distinct_tail}
use Rattle.dps_directions.proofs.Ways.{slice_contains, not_in_entry, put_now, cases, distinct_all, inside}
use Rattle.dps_directions.proofs.Unifying.{IsLeft}
use Rattle.dps_directions.proofs.NewlyBound.{bound_is, after_all}
use Rattle.dps_directions.proofs.Beginning.{all_in, some_level}
use Rattle.dps_directions.proofs.AlongUnify.{after, along_unify}

-- an entry's value holds variables of the scene alone
module _ (names : ℕ → Type 0) (scene : Scene) (valid : IsValid names scene) where
  value_leaf : (o : Option Tree) (k n : ℕ) → slice_get scene.values k ≡ o → StandsIn (var n) (unwrap_or o (leaf (entry (suc k))))
      → IsSome (level_of scene.system.levels n)
  value_leaf None k n e c = absurd (not_in_entry n (suc k) c)
  value_leaf (Some v) k n e c =
      leaf_meets (IsValueLeaf scene.system) AnySymbol
      (all_in (λ t. IsBuiltOf (IsValueLeaf scene.system) AnySymbol t) scene.values v valid.values (slice_contains scene.values k v e)) c

  pub in_value : (j n : ℕ) → StandsIn (var n) (numbered scene.values j (leaf (entry j))) → (l : ℕ) × (level_of scene.system.levels n ≡ Some l)
  in_value zero n c = absurd (not_in_entry n zero c)
  in_value (suc k) n c = some_level (level_of scene.system.levels n) (value_leaf (slice_get scene.values k) k n refl c)

-- an entry's value is that of its term
pub entry_value : (names : ℕ → Type 0) (scene : Scene) (ask : Ask) (valid : IsValid names scene) (course : Course names scene ask) (eta : ℕ → Tree)
    → ((x l : ℕ) → level_of scene.system.levels x ≡ Some l → eta x ≡ valued course.g course.s x) → (i : ℕ)
    → put_entries course.g (leaf (entry i)) ≡ substitute eta (numbered scene.values i (leaf (entry i)))
entry_value names scene ask valid course eta agrees i =
    ap (λ h. numbered h i (leaf (entry i))) course.valuation
    ∙ sym (numbered-map (substitute (valued course.g course.s)) scene.values i (λ k. refl))
    ∙ substitute_agrees (valued course.g course.s) eta (numbered scene.values i (leaf (entry i)))
    (λ x c. let l = in_value names scene valid i x c in sym (agrees x l.0 l.1))

module _ (names : ℕ → Type 0) (scene : Scene) (ask : Ask) (valid : IsValid names scene) (course : Course names scene ask) (b : Branch)
    (kept : IsKept scene ask b) (eta psi : ℕ → Tree) (goes : GoesWith names scene ask course b eta psi) (z : Target) (rest : List Target)
    (is : b.targets ≡ z ∷ rest) (i : ℕ) (tree : psi z.name ≡ leaf (entry i)) where
  first : Contains b.targets z
  first = first_in scene ask b z rest kept is

  pub there : IsEntryUpTo scene.system.know z.level i
  there = subst (IsGroundUpTo AnyRigidName scene.system.m scene.system.know z.level) tree (goes.levels z.name z.level (inl (z, first, refl, refl)))

  abbrev value : Tree
  value = numbered scene.values i (leaf (entry i))

  -- so the values make the entry's equation true
  pub unifies : Unifies eta (entry_equation scene b z i)
  unifies =
      (unifies_one eta (substitute b.theta value, substitute b.theta z.term)).1
      (under names scene ask course b kept eta psi goes value
      ∙ sym (entry_value names scene ask valid course eta goes.agrees i)
      ∙ ap (put_entries course.g) (sym tree)
      ∙ goes.sought z first
      ∙ sym (under names scene ask course b kept eta psi goes z.term))

  abbrev at_name : ℕ → Tree
  at_name = image (single z.name (leaf (entry i)))

  entries : (y j : ℕ) → at_name y ≡ leaf (entry j) → psi y ≡ leaf (entry j)
  entries y j e = elim (same_number y z.name) [
    | inl d ↦ ap psi d ∙ tree ∙ sym (here z.name (leaf (entry i))) ∙ ap at_name (sym d) ∙ e
    | inr d ↦ let h : leaf (var y) ≡ leaf (entry j) = sym (elsewhere z.name (leaf (entry i)) y d) ∙ e in cc
  ]

  module _ (u : List (ℕ × Tree)) (mgu : IsMgu b.levels (entry_equation scene b z i) u) (below_m : (x l : ℕ) → level_of scene.system.levels x ≡ Some l → l ≤ scene.system.m)
      (ps : List (ℕ × ℕ)) (newly : AreNewlyBound b.levels b.theta (put_now scene ask b z rest kept is i u mgu there below_m) ps) where
    along : GoesAlong names scene ask course (after_all (put_now scene ask b z rest kept is i u mgu there below_m) ps
        (record (with_tree b z rest (leaf (entry i))) { theta = put_now scene ask b z rest kept is i u mgu there below_m }))
    along =
        let all = distinct_all scene ask b z rest kept is i u mgu there below_m in
        let known = inside scene ask b z rest kept is i u mgu there below_m in
        let left_in : (y : Target) → Contains rest y → Contains b.targets y = λ y c. rest_in scene ask b z rest kept is y c in
        let on_left : (y k : ℕ) → IsLeft rest y k → at_name y ≡ leaf (var y) =
        λ y k h. elsewhere z.name (leaf (entry i)) y (λ d. distinct_head z h.0 rest all h.1 (sym d ∙ sym h.2)) in
        let on_free : (y k : ℕ) → IsFree b y k → at_name y ≡ leaf (var y) =
        λ y k f. elsewhere z.name (leaf (entry i)) y (λ d. name_not_free scene ask b z rest kept is k (subst (λ n. IsFree b n k) d f)) in
        let each = cases scene ask b z rest kept is i u mgu there below_m in (
          eta,
          after names scene ask course b kept eta psi goes u (entry_equation scene b z i) mgu known unifies ps newly rest at_name left_in
              (distinct_tail z rest all) on_left on_free each below_m entries,
          along_unify names scene ask course b kept eta psi goes u (entry_equation scene b z i) mgu known unifies ps newly rest at_name left_in
              (distinct_tail z rest all) on_left on_free each below_m entries,
        )

  pub along_use : (below_m : (x l : ℕ) → level_of scene.system.levels x ≡ Some l → l ≤ scene.system.m) (c : Branch)
      → Leads scene b z rest (use_entry i) c → GoesAlong names scene ask course c
  along_use below_m c (uses {u = u} {theta = theta} {bound = bound} mgu e newly q) =
      let to = q ∙ ap (λ f. with_bound bound (record (with_tree b z rest (leaf (entry i))) { theta = f })) e ∙ bound_is bound
      (record (with_tree b z rest (leaf (entry i))) { theta = (λ x. substitute (image u) (b.theta x)) }) in
      subst (GoesAlong names scene ask course) (sym to)
      (along u mgu below_m bound (subst (λ f. AreNewlyBound b.levels b.theta f bound) e newly))
