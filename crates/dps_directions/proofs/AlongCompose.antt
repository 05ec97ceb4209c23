-- A solution goes along where the first target's tree is composed.
use Rattle.std.proofs.Common.{◌≡◌, ℕ, ◌+◌, ◌<◌, List, [], ◌∷◌, ◌++◌, length, inl, inr, refl, sym, ◌∙◌, ap, arith, subst, Contains}
use Rattle.std.specs.List.{AllZip, range_with_len}
use Rattle.std.proofs.lemmas.List.Elements.{length_all_zip}
use Rattle.dps_terms.specs.declared.Sym.{Sym}
use Rattle.dps_terms.specs.declared.PublicName.{PublicName}
use Rattle.dps_terms.specs.Tree.{public, rigid, Tree, Trees, leaf, app, none, more, list_of}
use Rattle.dps_terms.specs.Replace.{replace_all, substitute, substitute_all, put_entries, entries_to, variables_to}
use Rattle.dps_terms.specs.Views.{arguments}
use Rattle.dps_terms.specs.Bindings.{image}
use Rattle.dps_terms.specs.Kinds.{AreBuiltOf, AnySymbol}
use Rattle.dps_unify.proofs.Bound.{single}
use Rattle.dps_know.proofs.Listing.{in_cons, in_none, in_append}
use Rattle.dps_solver.specs.Levels.{IsLeafUpTo, IsGroundUpTo, AnyRigidName}
use Rattle.dps_solver.specs.Scene.{Scene, Ask}
use Rattle.dps_solver.specs.declared.scene.Target.{Target}
use Rattle.dps_solver.specs.Search.{Branch, root_over, composed}
use Rattle.dps_solver.proofs.Bindings.{here, elsewhere}
use Rattle.dps_directions.proofs.Invariant.{IsOpen, IsKept}
use Rattle.dps_directions.proofs.Course.{Course, IsInTrees, GoesWith, GoesAlong, open_in, trees_after}
use Rattle.dps_directions.proofs.Following.{same_number, first_in, rest_in}
use Rattle.dps_directions.proofs.Lowering.{with_here, with_else}
use Rattle.dps_directions.proofs.Composing.{kids, given, given_before, names_as_trees, names_mean, is_kid}

-- the tree is composed as the term is: its arguments have the values of the term's
pub data IsComposedAs (g : List Tree) (eta : ℕ → Tree) : Tree → Tree → Type 0 where
  same_public : {n : PublicName} → IsComposedAs g eta (leaf (public n)) (leaf (public n))
  same_rigid : {k : ℕ} → IsComposedAs g eta (leaf (rigid k)) (leaf (rigid k))
  same_root : {f : Sym} {ts us : Trees} → replace_all (entries_to g) us ≡ substitute_all eta ts → IsComposedAs g eta (app f ts) (app f us)

module _ (scene : Scene) (g : List Tree) (eta : ℕ → Tree) (l : ℕ) where
  -- an argument of the term and one of the tree
  abbrev AreAlike : Tree → Tree → Type 0
  AreAlike t u = (put_entries g u ≡ substitute eta t) × IsGroundUpTo AnyRigidName scene.system.m scene.system.know l u

  all_alike : (ts us : Trees) → replace_all (entries_to g) us ≡ substitute_all eta ts
      → AreBuiltOf (IsLeafUpTo AnyRigidName scene.system.m scene.system.know [] l) AnySymbol us → AllZip AreAlike (list_of ts) (list_of us)
  all_alike none none e up = tt
  all_alike none (more u us) e up = cc
  all_alike (more t ts) none e up = cc
  all_alike (more t ts) (more u us) e up =
      let first : put_entries g u ≡ substitute eta t = cc in
      let rest : replace_all (entries_to g) us ≡ substitute_all eta ts = cc in
      ((first, up.0), all_alike ts us rest up.1)

  arguments_alike : (t u : Tree) → IsComposedAs g eta t u → IsGroundUpTo AnyRigidName scene.system.m scene.system.know l u
      → AllZip AreAlike (arguments t) (arguments u)
  arguments_alike t u same_public up = tt
  arguments_alike t u same_rigid up = tt
  arguments_alike t u (same_root {ts = ts} {us = us} e) up = all_alike ts us e up.1

-- the names of the arguments' targets get the tree's arguments
kid_given : (R : Tree → Tree → Type 0) (z : Target) (n : ℕ) (ts us : List Tree) (f : ℕ → Tree) → AllZip R ts us → (y : Target) → Contains (kids z n ts) y
    → R y.term (given n us f y.name)
kid_given R z n [] us f h y c = absurd (in_none y c)
kid_given R z n (t ∷ ts) [] f h y c = absurd h
kid_given R z n (t ∷ ts) (u ∷ us) f h y c = elim (in_cons y (record { name = n; level = z.level; term = t }) (kids z (n + 1) ts) c) [
  | inl e ↦ subst (λ (x : Target). R x.term (given n (u ∷ us) f x.name)) (sym e) (subst (R t) (sym (with_here n u (given (n + 1) us f) n refl)) h.0)
  | inr k ↦
      let from = (is_kid z (n + 1) ts f y k).from in
      subst (R y.term) (sym (with_else n u (given (n + 1) us f) y.name (λ e. omega (arith, e, from)))) (kid_given R z (n + 1) ts us f h.1 y k)
]

-- the tree again, from the root over the names
composed_again : (g : List Tree) (eta f : ℕ → Tree) (n : ℕ) (t u : Tree) → IsComposedAs g eta t u → length (arguments t) ≡ length (arguments u)
    → substitute (given n (arguments u) f) (root_over t (range_with_len n (length (arguments t)))) ≡ u
composed_again g eta f n t u same_public e = refl
composed_again g eta f n t u same_rigid e = refl
composed_again g eta f n t u (same_root {f = h} {ts = ts} {us = us} a) e =
    ap (λ k. substitute (given n (list_of us) f) (app h (names_as_trees n k))) e
    ∙ ap (app h) (names_mean (variables_to (given n (list_of us) f)) n us f (λ y l m. refl))

module _ (names : ℕ → Type 0) (scene : Scene) (ask : Ask) (course : Course names scene ask) (b : Branch) (kept : IsKept scene ask b)
    (eta psi : ℕ → Tree) (goes : GoesWith names scene ask course b eta psi) (z : Target) (rest : List Target) (is : b.targets ≡ z ∷ rest)
    (alike : IsComposedAs course.g eta (substitute b.theta z.term) (psi z.name)) where
  abbrev t : Tree
  t = substitute b.theta z.term

  abbrev next : Branch
  next = composed b z rest t

  abbrev tree : Tree
  tree = root_over t (range_with_len b.next (length (arguments t)))

  abbrev p : ℕ → Tree
  p = image (single z.name tree)

  abbrev after : ℕ → Tree
  after = given b.next (arguments (psi z.name)) psi

  first : Contains b.targets z
  first = first_in scene ask b z rest kept is

  parts : AllZip (AreAlike scene course.g eta z.level) (arguments t) (arguments (psi z.name))
  parts = arguments_alike scene course.g eta z.level t (psi z.name) alike (goes.levels z.name z.level (inl (z, first, refl, refl)))

  after_low : (y : ℕ) → y < b.next → after y ≡ psi y
  after_low y l = given_before b.next (arguments (psi z.name)) psi y l

  after_open : (y l : ℕ) → IsOpen b y l → after y ≡ psi y
  after_open y l o = after_low y (kept.below_next y l o)

  after_rest : (y : Target) → Contains rest y → after y.name ≡ psi y.name
  after_rest y c = after_open y.name y.level (inl (y, rest_in scene ask b z rest kept is y c, refl, refl))

  kid_alike : (y : Target) → Contains (kids z b.next (arguments t)) y → AreAlike scene course.g eta z.level y.term (after y.name)
  kid_alike y c = kid_given (AreAlike scene course.g eta z.level) z b.next (arguments t) (arguments (psi z.name)) psi parts y c

  tree_again : substitute after tree ≡ psi z.name
  tree_again =
      composed_again course.g eta psi b.next t (psi z.name) alike
      (length_all_zip (AreAlike scene course.g eta z.level) (arguments t) (arguments (psi z.name)) parts)

  p_at : (y : ℕ) → IsInTrees course.followed b y → substitute after (p y) ≡ psi y
  p_at y i = elim (same_number y z.name) [
    | inl e ↦ subst (λ n. substitute after (p n) ≡ psi n) (sym e) (ap (substitute after) (here z.name tree) ∙ tree_again)
    | inr d ↦
        let o = open_in names scene ask course b kept y i in
        ap (substitute after) (elsewhere z.name tree y d) ∙ after_open y o.0 o.1
  ]

  abbrev Ground : ℕ → Tree → Type 0
  Ground l u = IsGroundUpTo AnyRigidName scene.system.m scene.system.know l u

  ground_kid : (q : Target) (y l : ℕ) → Contains (kids z b.next (arguments t)) q → q.name ≡ y → q.level ≡ l → Ground l (after y)
  ground_kid q y l c e d =
      let k = (is_kid z b.next (arguments t) psi q c).level in
      subst (λ n. Ground n (after y)) (sym k ∙ d) (subst (λ n. Ground z.level (after n)) e (kid_alike q c).1)

  levels_now : (y l : ℕ) → IsOpen next y l → Ground l (after y)
  levels_now y l (inr f) = subst (Ground l) (sym (after_open y l (inr f))) (goes.levels y l (inr f))
  levels_now y l (inl q) = elim (in_append q.0 (kids z b.next (arguments t)) rest q.1) [
    | inl c ↦ ground_kid q.0 y l c q.2 q.3
    | inr c ↦
        let o : IsOpen b y l = inl (q.0, rest_in scene ask b z rest kept is q.0 c, q.2, q.3) in
        subst (Ground l) (sym (after_open y l o)) (goes.levels y l o)
  ]

  sought_now : (y : Target) → Contains (kids z b.next (arguments t) ++ rest) y → put_entries course.g (after y.name) ≡ substitute eta y.term
  sought_now y h = elim (in_append y (kids z b.next (arguments t)) rest h) [
    | inl c ↦ (kid_alike y c).0
    | inr c ↦ ap (put_entries course.g) (after_rest y c) ∙ goes.sought y (rest_in scene ask b z rest kept is y c)
  ]

  pub along_compose : GoesAlong names scene ask course next
  along_compose = (
    eta,
    after,
    record {
      trees = trees_after names scene ask course b kept eta psi goes p after p_at;
      levels = levels_now;
      free = λ y l f. ap (put_entries course.g) (after_open y l (inr f)) ∙ goes.free y l f;
      sought = sought_now;
      values = goes.values;
      agrees = goes.agrees;
    },
  )
