-- The form of a rule, argument by argument.
use Rattle.std.proofs.Common.{◌≡◌, ℕ, zero, suc, ◌+◌, ◌<◌, ◌≤◌, List, length, Some, refl, sym, ◌∙◌, ap, arith, ◌⊎◌, inl, inr, subst}
use Rattle.std.specs.Prelude.{slice_get, ◌↔◌}
use Rattle.std.proofs.lemmas.Bool.{cases_lt}
use Rattle.std.proofs.lemmas.Option.{none-some, slice_get_within}
use Rattle.dps_terms.specs.declared.Sym.{Sym}
use Rattle.dps_signature.specs.declared.SymKind.{SymKind}
use Rattle.dps_signature.specs.declared.SymKind.TheVariants.{Constructor, Destructor}
use Rattle.dps_terms.specs.declared.TermView.TheVariants.{App, Var}
use Rattle.dps_terms.specs.Tree.{Leaf, public, private, var, ax, entry, rigid, Tree, Trees, leaf, app, none, more, list_of, count, IsSubterm, IsAmong, IsStrictSubterm}
use Rattle.dps_terms.specs.Tree.{itself, below, in_first, in_rest, strictly}
use Rattle.dps_terms.specs.Views.{view_of, arguments}
use Rattle.dps_signature.specs.Signature.{Shape, HasShape}
use Rattle.dps_terms.specs.Kinds.{IsBuiltOf, AreBuiltOf, AnyLeaf, AnySymbol, IsNoVariable, IsClosed}
use Rattle.dps_signature.specs.Kinds.{IsConstructorTerm}
use Rattle.dps_terms.proofs.Arguments.{leaf_is_no_app}
use Rattle.dps_theory.specs.Theory.{HasDestructorRoot, HasConstructorArguments}

-- P holds of the first i arguments
abbrev pub FirstArguments : (Tree → Type 0) → Tree → ℕ → Type 0
FirstArguments P t i = (j : ℕ) → j < i → (u : Tree) → slice_get (arguments t) j ≡ Some u → P u

module _ (P : Tree → Type 0) (t : Tree) where
  pub first_all : (i : ℕ) → FirstArguments P t i → length (arguments t) ≤ i → (j : ℕ) (u : Tree) → slice_get (arguments t) j ≡ Some u → P u
  first_all i h l j u e = h j (omega (arith, slice_get_within (arguments t) j u e)) u e

pub count-list_of : (ts : Trees) → count ts ≡ length (list_of ts)
count-list_of none = refl
count-list_of (more t ts) = omega (arith, count-list_of ts)

-- what each argument is built of
module _ (L : Leaf → Type 0) (S : Sym → ℕ → Type 0) where
  pub built_each : (ts : Trees) → ((j : ℕ) (u : Tree) → slice_get (list_of ts) j ≡ Some u → IsBuiltOf L S u) → AreBuiltOf L S ts
  built_each none h = tt
  built_each (more t ts) h = (h 0 t refl, built_each ts (λ j. h (suc j)))

  pub built_one : (ts : Trees) → AreBuiltOf L S ts → (j : ℕ) (u : Tree) → slice_get (list_of ts) j ≡ Some u → IsBuiltOf L S u
  built_one none b j u e = absurd (none-some u e)
  built_one (more t ts) b zero u e = let d : t ≡ u = cc in subst (IsBuiltOf L S) d b.0
  built_one (more t ts) b (suc j) u e = built_one ts b.1 j u e

-- constructors below the root
module _ (known : List Shape) where
  pub constructor_arguments_all : (t : Tree) (i : ℕ) → FirstArguments (IsConstructorTerm known) t i → length (arguments t) ≤ i → HasConstructorArguments known t
  constructor_arguments_all (leaf x) i h l = tt
  constructor_arguments_all (app f ts) i h l = built_each AnyLeaf (HasShape known Constructor) ts (first_all (IsConstructorTerm known) (app f ts) i h l)

  pub constructor_arguments_one : (t : Tree) (j : ℕ) (u : Tree) → HasConstructorArguments known t → slice_get (arguments t) j ≡ Some u → IsConstructorTerm known u
  constructor_arguments_one (leaf x) j u h e = absurd (none-some u e)
  constructor_arguments_one (app f ts) j u h e = built_one AnyLeaf (HasShape known Constructor) ts h j u e

  shape_here : (kind : SymKind) (f g : Sym) (ts : Trees) (n : ℕ) → f ≡ g → n ≡ length (list_of ts) → HasShape known kind f n ↔ HasShape known kind g (count ts)
  shape_here kind f g ts n e d =
      let m : n ≡ count ts = d ∙ sym (count-list_of ts) in (
        λ h. subst (λ k. HasShape known kind g k) m (subst (λ k. HasShape known kind k n) e h),
        λ h. subst (λ k. HasShape known kind k n) (sym e) (subst (λ k. HasShape known kind g k) (sym m) h),
      )

  pub constructor_app : (t : Tree) (f : Sym) (n : ℕ) → App f ≡ view_of t → n ≡ length (arguments t) → (HasShape known Constructor f n × HasConstructorArguments known t) ↔ IsConstructorTerm known t
  constructor_app (leaf x) f n e d = absurd (leaf_is_no_app x f (sym e))
  constructor_app (app g ts) f n e d =
      let same : f ≡ g = cc in
      let s = shape_here Constructor f g ts n same d in (λ h. (s.0 h.0, h.1), λ h. (s.1 h.0, h.1))

  -- the root
  pub destructor_root : (t : Tree) (f : Sym) (n : ℕ) → App f ≡ view_of t → n ≡ length (arguments t) → HasShape known Destructor f n ↔ HasDestructorRoot known t
  destructor_root (leaf x) f n e d = absurd (leaf_is_no_app x f (sym e))
  destructor_root (app g ts) f n e d = let same : f ≡ g = cc in shape_here Destructor f g ts n same d

-- ground terms

pub closed_all : (t : Tree) (i : ℕ) → ((n : ℕ) → view_of t ≡ Var n → ⊥) → FirstArguments IsClosed t i → length (arguments t) ≤ i → IsClosed t
closed_all (leaf (public m)) i other h l = tt
closed_all (leaf (private m)) i other h l = tt
closed_all (leaf (var m)) i other h l = other m refl
closed_all (leaf (ax m)) i other h l = tt
closed_all (leaf (entry m)) i other h l = tt
closed_all (leaf (rigid m)) i other h l = tt
closed_all (app f ts) i other h l = (tt, built_each IsNoVariable AnySymbol ts (first_all IsClosed (app f ts) i h l))

pub closed_one : (t : Tree) (j : ℕ) (u : Tree) → slice_get (arguments t) j ≡ Some u → IsClosed t → IsClosed u
closed_one (leaf x) j u e h = absurd (none-some u e)
closed_one (app f ts) j u e h = built_one IsNoVariable AnySymbol ts h.1 j u e

-- subterms
subterm_cases : (u t : Tree) → IsSubterm u t → (u ≡ t) ⊎ IsStrictSubterm u t
subterm_cases u t itself = inl refl
subterm_cases u (app f ts) (below k) = inr (strictly k)

strict_below : (u t : Tree) → IsStrictSubterm u t → IsSubterm u t
strict_below u (leaf x) k = elim k [ ]
strict_below u (app f ts) (strictly k) = below k

pub subterm_or : (u t : Tree) → IsSubterm u t ↔ ((u ≡ t) ⊎ IsStrictSubterm u t)
subterm_or u t = (subterm_cases u t, elim [ inl e ↦ subst (λ v. IsSubterm u v) e itself | inr k ↦ strict_below u t k ])

below_among : (ts : Trees) (j : ℕ) (u v : Tree) → slice_get (list_of ts) j ≡ Some u → IsSubterm v u → IsAmong v ts
below_among none j u v e k = absurd (none-some u e)
below_among (more t ts) zero u v e k = let d : u ≡ t = cc in in_first (subst (λ w. IsSubterm v w) d k)
below_among (more t ts) (suc j) u v e k = in_rest (below_among ts j u v e k)

pub strict_one : (v t : Tree) (j : ℕ) (u : Tree) → slice_get (arguments t) j ≡ Some u → IsSubterm v u → IsStrictSubterm v t
strict_one v (leaf x) j u e k = absurd (none-some u e)
strict_one v (app f ts) j u e k = strictly (below_among ts j u v e k)

among_one : (v : Tree) (ts : Trees) → IsAmong v ts → (i : ℕ) × (u : Tree) × (slice_get (list_of ts) i ≡ Some u) × IsSubterm v u
among_one v none k = elim k [ ]
among_one v (more t ts) (in_first k) = (0, t, refl, k)
among_one v (more t ts) (in_rest k) = let h = among_one v ts k in (suc h.0, h.1, h.2, h.3)

pub strict_none : (v t : Tree) (i : ℕ) → FirstArguments (λ u. ¬ IsSubterm v u) t i → length (arguments t) ≤ i → ¬ IsStrictSubterm v t
strict_none v (app f ts) i h l (strictly k) =
    let o = among_one v ts k in first_all (λ u. ¬ IsSubterm v u) (app f ts) i h l o.0 o.1 o.2 o.3
strict_none v (leaf x) i h l k = elim k [ ]
