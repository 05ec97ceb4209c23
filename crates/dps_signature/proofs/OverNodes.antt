-- Terms over a signature, node by node.
use Rattle.std.proofs.Common.{◌≡◌, ℕ, zero, suc, List, [], ◌∷◌, length, take, drop, refl, subst, sym}
use Rattle.std.specs.Prelude.{◌↔◌}
use Rattle.dps_terms.specs.declared.Sym.{Sym}
use Rattle.dps_terms.specs.declared.PublicName.TheVariants.{Declared, At}
use Rattle.dps_terms.specs.declared.TermView.{TermView}
use Rattle.dps_terms.specs.declared.TermView.TheVariants.{App, Public}
use Rattle.dps_terms.specs.Tree.{Leaf, public, private, var, ax, entry, rigid, Tree, Trees, leaf, app, none, more, count, list_of, IsSubterm}
use Rattle.dps_terms.specs.Views.{view_of, arguments}
use Rattle.dps_terms.specs.Kinds.{AreBuiltOf}
use Rattle.dps_terms.proofs.Building.{built_subterm}
use Rattle.dps_terms.proofs.Preorder.{length-list_of}
use Rattle.dps_signature.specs.Signature.{Signature, HasArity, IsPublic, shapes}
use Rattle.dps_signature.specs.Kinds.{IsOver, IsLeafOver}
use Rattle.dps_signature.specs.Over.{IsRootOver, AreOver}

module _ (s : Signature) where
  -- a root by what it shows
  pub symbol_over : (t : Tree) (f : Sym) → App f ≡ view_of t → HasArity (shapes s) f (length (arguments t)) ↔ IsRootOver s t
  symbol_over (app g ts) f e =
      let same : f ≡ g = cc in
      rw (same, length-list_of ts) (λ h. h, λ h. h)
  symbol_over (leaf (public n)) f e = absurd cc
  symbol_over (leaf (private n)) f e = absurd cc
  symbol_over (leaf (var n)) f e = absurd cc
  symbol_over (leaf (ax n)) f e = absurd cc
  symbol_over (leaf (entry n)) f e = absurd cc
  symbol_over (leaf (rigid n)) f e = absurd cc

  pub name_over : (t : Tree) (n : ℕ) → Public (Declared n) ≡ view_of t → IsPublic s n ↔ IsRootOver s t
  name_over (app g ts) n e = absurd cc
  name_over (leaf (public (Declared m))) n e =
      let same : n ≡ m = cc in rw same (λ h. h, λ h. h)
  name_over (leaf (public (At m))) n e = absurd cc
  name_over (leaf (private m)) n e = absurd cc
  name_over (leaf (var m)) n e = absurd cc
  name_over (leaf (ax m)) n e = absurd cc
  name_over (leaf (entry m)) n e = absurd cc
  name_over (leaf (rigid m)) n e = absurd cc

  pub other_over : (t : Tree) → ((f : Sym) → view_of t ≡ App f → ⊥) → ((n : ℕ) → view_of t ≡ Public (Declared n) → ⊥) → IsRootOver s t
  other_over (app g ts) h k = absurd (h g refl)
  other_over (leaf (public (Declared m))) h k = absurd (k m refl)
  other_over (leaf (public (At m))) h k = tt
  other_over (leaf (private m)) h k = tt
  other_over (leaf (var m)) h k = tt
  other_over (leaf (ax m)) h k = tt
  other_over (leaf (entry m)) h k = tt
  other_over (leaf (rigid m)) h k = tt

  taken_over : (n : ℕ) (ts : List Tree) → AreOver s ts → AreOver s (take n ts)
  taken_over zero ts h = tt
  taken_over (suc n) [] h = tt
  taken_over (suc n) (t ∷ ts) h = (h.0, taken_over n ts h.1)

  dropped_over : (n : ℕ) (ts : List Tree) → AreOver s ts → AreOver s (drop n ts)
  dropped_over zero ts h = h
  dropped_over (suc n) [] h = tt
  dropped_over (suc n) (t ∷ ts) h = dropped_over n ts h.1

  arguments_over : (ts : Trees) → AreOver s (list_of ts) → AreBuiltOf (IsLeafOver s) (HasArity (shapes s)) ts
  arguments_over none h = tt
  arguments_over (more t ts) h = (h.0, arguments_over ts h.1)

  tree_over : (t : Tree) → IsRootOver s t → AreOver s (arguments t) → IsOver s t
  tree_over (leaf x) r h = r
  tree_over (app f ts) r h = (r, arguments_over ts h)

  root_over : (t : Tree) → IsOver s t → IsRootOver s t
  root_over (leaf x) h = h
  root_over (app f ts) h = h.0

  -- what is over the signature behind a node, with the node itself
  pub over_from : (us ts : List Tree) (t : Tree) → us ≡ t ∷ drop (length (arguments t)) ts → arguments t ≡ take (length (arguments t)) ts → IsRootOver s t → AreOver s ts → AreOver s us
  over_from us ts t e a r h =
      subst (AreOver s) (sym e) (tree_over t r (subst (AreOver s) (sym a) (taken_over (length (arguments t)) ts h)), dropped_over (length (arguments t)) ts h)

  -- each root of a term over the signature
  pub over_inside : (t u : Tree) → IsOver s t → IsSubterm u t → IsRootOver s u
  over_inside t u h k = root_over u (built_subterm (IsLeafOver s) (HasArity (shapes s)) h k)
