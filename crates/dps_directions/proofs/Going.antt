-- Each branch that a solution goes with has a way that it goes on with.
use Rattle.std.proofs.Common.{◌≡◌, ℕ, zero, suc, ◌+◌, ◌≤◌, List, [], ◌∷◌, ◌⊎◌, inl, inr, Bool, true, false, Some, refl, sym, ◌∙◌, ap, arith, subst, Contains}
use Rattle.std.specs.Prelude.{◌≢◌, slice_get, nat_le, nat_eq, if◌then◌else◌}
use Rattle.std.proofs.lemmas.Bool.{le-leb, eq-eqb}
use Rattle.dps_terms.specs.declared.Sym.{Sym}
use Rattle.dps_terms.specs.declared.PublicName.{PublicName}
use Rattle.dps_terms.specs.Tree.{public, private, var, ax, entry, rigid, Tree, Trees, leaf, app}
use Rattle.dps_terms.specs.Replace.{replace_all, substitute, substitute_all, put_entries, entries_to}
use Rattle.dps_unify.specs.Order.{level_of}
use Rattle.dps_unify.specs.Unifier.{Unifies}
use Rattle.dps_know.specs.declared.know.Entry.{Entry}
use Rattle.dps_know.proofs.Listing.{in_head, in_tail, in_left, in_right}
use Rattle.dps_solver.specs.Levels.{IsEntryUpTo, IsGroundUpTo, AnyRigidName}
use Rattle.dps_solver.specs.Scene.{System, Scene, Ask}
use Rattle.dps_solver.specs.declared.scene.Target.{Target}
use Rattle.dps_solver.specs.Search.{Branch, follow, use_entry, compose, ways, entry_ways, entry_equation, Leads, follows, lowers, composes}
use Rattle.dps_directions.specs.Valid.{IsValid}
use Rattle.dps_directions.proofs.Invariant.{IsKept}
use Rattle.dps_directions.proofs.Course.{Course, GoesWith, GoesAlong, under}
use Rattle.dps_directions.proofs.Ahead.{NextWay, GoesOn}
use Rattle.dps_directions.proofs.Following.{first_in, level_below_m}
use Rattle.dps_directions.proofs.NewlyBound.{variable_or_not}
use Rattle.dps_directions.proofs.AlongFollow.{along_follow}
use Rattle.dps_directions.proofs.AlongLower.{along_lower}
use Rattle.dps_directions.proofs.AlongCompose.{IsComposedAs, same_public, same_rigid, same_root, along_compose}
use Rattle.dps_directions.proofs.AlongUse.{there, unifies, along_use}

-- an entry of at most the level is among the ways
entry_among : (es : List Entry) (l n j : ℕ) (e : Entry) → slice_get es j ≡ Some e → e.level ≤ l → Contains (entry_ways l n es) (use_entry (n + j))
entry_among [] l n j e h low = cc
entry_among (d ∷ es) l n zero e h low =
    let same : d ≡ e = cc in
    let yes : nat_le d.level l ≡ true = le-leb d.level l (omega (arith, low, ap (λ (x : Entry). x.level) same)) in
    let at : n ≡ n + zero = omega arith in
    subst (λ b. Contains (if b then use_entry n ∷ entry_ways l (n + 1) es else entry_ways l (n + 1) es) (use_entry (n + zero))) (sym yes)
    (subst (λ k. Contains (use_entry n ∷ entry_ways l (n + 1) es) (use_entry k)) at (in_head (use_entry n) (entry_ways l (n + 1) es)))
entry_among (d ∷ es) l n (suc j) e h low =
    let at : (n + 1) + j ≡ n + suc j = omega arith in
    later (nat_le d.level l) (subst (λ k. Contains (entry_ways l (n + 1) es) (use_entry k)) at (entry_among es l (n + 1) j e h low))
  where
    later : (b : Bool) → Contains (entry_ways l (n + 1) es) (use_entry (n + suc j))
        → Contains (if b then use_entry n ∷ entry_ways l (n + 1) es else entry_ways l (n + 1) es) (use_entry (n + suc j))
    later true c = in_tail (use_entry (n + suc j)) (use_entry n) (entry_ways l (n + 1) es) c
    later false c = c

entry_at_level : (system : System) (l i : ℕ) → IsEntryUpTo system.know l i → Contains (entry_ways l 1 system.know.entries) (use_entry i)
entry_at_level system l zero h = let e = h.1 in cc
entry_at_level system l (suc k) h =
    let at : 1 + k ≡ suc k = omega arith in
    subst (λ i. Contains (entry_ways l 1 system.know.entries) (use_entry i)) at (entry_among system.know.entries l 1 k h.0 h.1 h.2)

pub entry_way : (system : System) (l i : ℕ) (t : Tree) → ((v : ℕ) → t ≢ leaf (var v)) → IsEntryUpTo system.know l i → Contains (ways system l t) (use_entry i)
entry_way system l i (leaf (var w)) d h = absurd (d w refl)
entry_way system l i (leaf (public n)) d h = in_left (use_entry i) (entry_ways l 1 system.know.entries) (compose ∷ []) (entry_at_level system l i h)
entry_way system l i (leaf (rigid k)) d h =
    in_left (use_entry i) (entry_ways l 1 system.know.entries) (if nat_eq l system.m then compose ∷ [] else []) (entry_at_level system l i h)
entry_way system l i (leaf (private n)) d h = entry_at_level system l i h
entry_way system l i (leaf (ax n)) d h = entry_at_level system l i h
entry_way system l i (leaf (entry n)) d h = entry_at_level system l i h
entry_way system l i (app f ts) d h = in_left (use_entry i) (entry_ways l 1 system.know.entries) (compose ∷ []) (entry_at_level system l i h)

-- a term that has a name's value is the name, and one that has a symbol's is composed
is_public : (eta : ℕ → Tree) (n : PublicName) (t : Tree) → ((v : ℕ) → t ≢ leaf (var v)) → leaf (public n) ≡ substitute eta t → leaf (public n) ≡ t
is_public eta n (leaf (var w)) d e = absurd (d w refl)
is_public eta n (leaf (public m)) d e = e
is_public eta n (leaf (private m)) d e = e
is_public eta n (leaf (ax m)) d e = e
is_public eta n (leaf (entry m)) d e = e
is_public eta n (leaf (rigid m)) d e = e
is_public eta n (app f ts) d e = cc

is_rigid : (eta : ℕ → Tree) (n : ℕ) (t : Tree) → ((v : ℕ) → t ≢ leaf (var v)) → leaf (rigid n) ≡ substitute eta t → leaf (rigid n) ≡ t
is_rigid eta n (leaf (var w)) d e = absurd (d w refl)
is_rigid eta n (leaf (public m)) d e = e
is_rigid eta n (leaf (private m)) d e = e
is_rigid eta n (leaf (ax m)) d e = e
is_rigid eta n (leaf (entry m)) d e = e
is_rigid eta n (leaf (rigid m)) d e = e
is_rigid eta n (app f ts) d e = cc

is_composed : (g : List Tree) (eta : ℕ → Tree) (f : Sym) (us : Trees) (t : Tree) → ((v : ℕ) → t ≢ leaf (var v))
    → app f (replace_all (entries_to g) us) ≡ substitute eta t → IsComposedAs g eta t (app f us)
is_composed g eta f us (leaf (var w)) d e = absurd (d w refl)
is_composed g eta f us (leaf (public m)) d e = cc
is_composed g eta f us (leaf (private m)) d e = cc
is_composed g eta f us (leaf (ax m)) d e = cc
is_composed g eta f us (leaf (entry m)) d e = cc
is_composed g eta f us (leaf (rigid m)) d e = cc
is_composed g eta f us (app h ts) d e =
    let root : f ≡ h = cc in
    let same : replace_all (entries_to g) us ≡ substitute_all eta ts = cc in
    subst (λ k. IsComposedAs g eta (app h ts) (app k us)) (sym root) (same_root same)

-- a ground tree with the term's value is composed as the term is, or an entry
composed_or_entry : (scene : Scene) (g : List Tree) (eta : ℕ → Tree) (l : ℕ) (t u : Tree) → ((v : ℕ) → t ≢ leaf (var v))
    → IsGroundUpTo AnyRigidName scene.system.m scene.system.know l u → put_entries g u ≡ substitute eta t
    → IsComposedAs g eta t u ⊎ ((i : ℕ) × (u ≡ leaf (entry i)))
composed_or_entry scene g eta l t (leaf (public n)) d up e = inl (subst (λ v. IsComposedAs g eta v (leaf (public n))) (is_public eta n t d e) same_public)
composed_or_entry scene g eta l t (leaf (rigid n)) d up e = inl (subst (λ v. IsComposedAs g eta v (leaf (rigid n))) (is_rigid eta n t d e) same_rigid)
composed_or_entry scene g eta l t (leaf (private n)) d up e = absurd up
composed_or_entry scene g eta l t (leaf (ax n)) d up e = absurd up
composed_or_entry scene g eta l t (leaf (var n)) d up e = let k = up.1 in cc
composed_or_entry scene g eta l t (leaf (entry i)) d up e = inr (i, refl)
composed_or_entry scene g eta l t (app f us) d up e = inl (is_composed g eta f us t d e)

compose_way : (system : System) (g : List Tree) (eta : ℕ → Tree) (l : ℕ) (t u : Tree) → IsComposedAs g eta t u
    → IsGroundUpTo AnyRigidName system.m system.know l u → l ≤ system.m → Contains (ways system l t) compose
compose_way system g eta l t u same_public up low = in_right compose (entry_ways l 1 system.know.entries) (compose ∷ []) (in_head compose [])
compose_way system g eta l t u same_rigid up low =
    let at : l ≡ system.m = omega (arith, up.1, low) in
    in_right compose (entry_ways l 1 system.know.entries) (if nat_eq l system.m then compose ∷ [] else [])
    (subst (λ b. Contains (if b then compose ∷ [] else []) compose) (sym (eq-eqb l system.m at)) (in_head compose []))
compose_way system g eta l t u (same_root e) up low = in_right compose (entry_ways l 1 system.know.entries) (compose ∷ []) (in_head compose [])

same_use : (i j : ℕ) → use_entry i ≡ use_entry j → i ≡ j
same_use i j e = cc

module _ (names : ℕ → Type 0) (scene : Scene) (ask : Ask) (valid : IsValid names scene) (course : Course names scene ask) (b : Branch)
    (kept : IsKept scene ask b) (eta psi : ℕ → Tree) (goes : GoesWith names scene ask course b eta psi) (z : Target) (rest : List Target)
    (is : b.targets ≡ z ∷ rest) where
  first : Contains b.targets z
  first = first_in scene ask b z rest kept is

  below_m : (x l : ℕ) → level_of scene.system.levels x ≡ Some l → l ≤ scene.system.m
  below_m = level_below_m names scene valid

  abbrev t : Tree
  t = substitute b.theta z.term

  ground : IsGroundUpTo AnyRigidName scene.system.m scene.system.know z.level (psi z.name)
  ground = goes.levels z.name z.level (inl (z, first, refl, refl))

  low : z.level ≤ scene.system.m
  low = kept.up_to_m z.name z.level (inl (z, first, refl, refl))

  follow_goes : (c : Branch) → Leads scene b z rest follow c → GoesAlong names scene ask course c
  follow_goes c (follows {w = w} e up q) =
      subst (GoesAlong names scene ask course) (sym q) (along_follow names scene ask course b kept eta psi goes z rest is w e up below_m)
  follow_goes c (lowers {w = w} e high q) =
      subst (GoesAlong names scene ask course) (sym q) (along_lower names scene ask course b kept eta psi goes z rest is w e high below_m)

  compose_goes : IsComposedAs course.g eta t (psi z.name) → (c : Branch) → Leads scene b z rest compose c → GoesAlong names scene ask course c
  compose_goes alike c (composes q) = subst (GoesAlong names scene ask course) (sym q) (along_compose names scene ask course b kept eta psi goes z rest is alike)

  by_following : (w : ℕ) → t ≡ leaf (var w) → NextWay names scene ask course b z rest
  by_following w e = record {
    way = follow;
    among = subst (λ u. Contains (ways scene.system z.level u) follow) (sym e) (in_head follow []);
    usable = λ i h. absurd (let d : follow ≡ use_entry i = h in cc);
    goes = follow_goes;
  }

  by_composing : IsComposedAs course.g eta t (psi z.name) → NextWay names scene ask course b z rest
  by_composing alike = record {
    way = compose;
    among = compose_way scene.system course.g eta z.level t (psi z.name) alike ground low;
    usable = λ i h. absurd (let d : compose ≡ use_entry i = h in cc);
    goes = compose_goes alike;
  }

  by_entry : ((v : ℕ) → t ≢ leaf (var v)) → (i : ℕ) → psi z.name ≡ leaf (entry i) → NextWay names scene ask course b z rest
  by_entry d i e = record {
    way = use_entry i;
    among = entry_way scene.system z.level i t d (there names scene ask valid course b kept eta psi goes z rest is i e);
    usable = λ j h never.
        never eta (subst (λ k. Unifies eta (entry_equation scene b z k)) (same_use i j h)
        (unifies names scene ask valid course b kept eta psi goes z rest is i e));
    goes = λ c leads. along_use names scene ask valid course b kept eta psi goes z rest is i e below_m c leads;
  }

  value_is : put_entries course.g (psi z.name) ≡ substitute eta t
  value_is = goes.sought z first ∙ sym (under names scene ask course b kept eta psi goes z.term)

  pub next_way : NextWay names scene ask course b z rest
  next_way = elim (variable_or_not t) [
    | inl e ↦ by_following e.0 e.1
    | inr d ↦ elim (composed_or_entry scene course.g eta z.level t (psi z.name) d ground value_is) [
      | inl alike ↦ by_composing alike
      | inr e ↦ by_entry d e.0 e.1
    ]
  ]

pub goes_on : (names : ℕ → Type 0) (scene : Scene) (ask : Ask) → GoesOn names scene ask
goes_on names scene ask = λ course b z rest eta psi valid fits kept is goes. next_way names scene ask valid course b kept eta psi goes z rest is
