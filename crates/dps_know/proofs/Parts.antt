-- Subterms, argument by argument.
use Rattle.std.proofs.Common.{◌≡◌, ℕ, zero, suc, ◌<◌, ◌≤◌, length, Some, refl, arith, ◌⊎◌, inl, inr, subst}
use Rattle.std.specs.Prelude.{slice_get, ◌↔◌}
use Rattle.std.proofs.lemmas.Option.{none-some, slice_get_within}
use Rattle.dps_terms.specs.Tree.{Tree, Trees, leaf, app, none, more, list_of, IsSubterm, IsAmong, IsStrictSubterm, itself, below, in_first, in_rest, strictly}
use Rattle.dps_terms.specs.Views.{arguments}

-- P holds of the first i arguments
abbrev pub FirstArguments : (Tree → Type 0) → Tree → ℕ → Type 0
FirstArguments P t i = (j : ℕ) → j < i → (u : Tree) → slice_get (arguments t) j ≡ Some u → P u

first_all : (P : Tree → Type 0) (t : Tree) (i : ℕ) → FirstArguments P t i → length (arguments t) ≤ i
    → (j : ℕ) (u : Tree) → slice_get (arguments t) j ≡ Some u → P u
first_all P t i h l j u e = h j (omega (arith, slice_get_within (arguments t) j u e)) u e

subterm_cases : (u t : Tree) → IsSubterm u t → (u ≡ t) ⊎ IsStrictSubterm u t
subterm_cases u t itself = inl refl
subterm_cases u (app f ts) (below k) = inr (strictly k)

strict_below : (u t : Tree) → IsStrictSubterm u t → IsSubterm u t
strict_below u (leaf x) k = elim k [ ]
strict_below u (app f ts) (strictly k) = below k

pub subterm_or : (u t : Tree) → IsSubterm u t ↔ ((u ≡ t) ⊎ IsStrictSubterm u t)
subterm_or u t = (subterm_cases u t, elim [ inl e ↦ subst (λ v. IsSubterm u v) e itself | inr k ↦ strict_below u t k ])

below_among : (ts : Trees) (j : ℕ) (u v : Tree) → slice_get (list_of ts) j ≡ Some u → IsSubterm v u → IsAmong v ts
below_among none j u v e k = absurd (none-some u e)
below_among (more t ts) zero u v e k = let d : u ≡ t = cc in in_first (subst (λ w. IsSubterm v w) d k)
below_among (more t ts) (suc j) u v e k = in_rest (below_among ts j u v e k)

pub strict_one : (v t : Tree) (j : ℕ) (u : Tree) → slice_get (arguments t) j ≡ Some u → IsSubterm v u → IsStrictSubterm v t
strict_one v (leaf x) j u e k = absurd (none-some u e)
strict_one v (app f ts) j u e k = strictly (below_among ts j u v e k)

among_one : (v : Tree) (ts : Trees) → IsAmong v ts → (i : ℕ) × (u : Tree) × (slice_get (list_of ts) i ≡ Some u) × IsSubterm v u
among_one v none k = elim k [ ]
among_one v (more t ts) (in_first k) = (0, t, refl, k)
among_one v (more t ts) (in_rest k) = let h = among_one v ts k in (suc h.0, h.1, h.2, h.3)

pub strict_none : (v t : Tree) (i : ℕ) → FirstArguments (λ u. ¬ IsSubterm v u) t i → length (arguments t) ≤ i → ¬ IsStrictSubterm v t
strict_none v (app f ts) i h l (strictly k) =
    let o = among_one v ts k in first_all (λ u. ¬ IsSubterm v u) (app f ts) i h l o.0 o.1 o.2 o.3
strict_none v (leaf x) i h l k = elim k [ ]
