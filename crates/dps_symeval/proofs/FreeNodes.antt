-- Terms without destructors, node by node.
use Rattle.std.proofs.Common.{◌≡◌, ℕ, zero, suc, List, [], ◌∷◌, length, take, drop, subst, sym, refl, ◌∙◌, Bool, true, false, true≢false}
use Rattle.std.specs.Prelude.{MatchBool}
use Rattle.dps_terms.specs.declared.Sym.{Sym}
use Rattle.dps_terms.specs.declared.TermView.TheVariants.{App}
use Rattle.dps_terms.specs.Tree.{public, private, var, ax, entry, rigid, Tree, Trees, leaf, app, none, more, list_of, IsSubterm}
use Rattle.dps_terms.specs.Views.{view_of, arguments}
use Rattle.dps_terms.specs.Kinds.{AnyLeaf, AreBuiltOf}
use Rattle.dps_terms.proofs.Building.{built_subterm}
use Rattle.dps_theory.specs.Theory.{Theory}
use Rattle.dps_symeval.specs.Cases.{is_destructor}
use Rattle.dps_symeval.specs.Agenda.{NoDestructor, IsFree, AreFree, IsRootFree}

module _ (theory : Theory) where
  taken_free : (n : ℕ) (ts : List Tree) → AreFree theory ts → AreFree theory (take n ts)
  taken_free zero ts h = tt
  taken_free (suc n) [] h = tt
  taken_free (suc n) (t ∷ ts) h = (h.0, taken_free n ts h.1)

  dropped_free : (n : ℕ) (ts : List Tree) → AreFree theory ts → AreFree theory (drop n ts)
  dropped_free zero ts h = h
  dropped_free (suc n) [] h = tt
  dropped_free (suc n) (t ∷ ts) h = dropped_free n ts h.1

  arguments_free : (ts : Trees) → AreFree theory (list_of ts) → AreBuiltOf AnyLeaf (NoDestructor theory) ts
  arguments_free none h = tt
  arguments_free (more t ts) h = (h.0, arguments_free ts h.1)

  tree_free : (t : Tree) → IsRootFree theory t → AreFree theory (arguments t) → IsFree theory t
  tree_free (leaf x) r h = tt
  tree_free (app f ts) r h = (r, arguments_free ts h)

  -- what has no destructor behind a node, with the node itself
  pub free_from : (us ts : List Tree) (t : Tree) → us ≡ t ∷ drop (length (arguments t)) ts → arguments t ≡ take (length (arguments t)) ts → IsRootFree theory t → AreFree theory ts → AreFree theory us
  free_from us ts t e a r h =
      subst (AreFree theory) (sym e) (tree_free t r (subst (AreFree theory) (sym a) (taken_free (length (arguments t)) ts h)), dropped_free (length (arguments t)) ts h)

  -- a root by what it shows
  pub symbol_free : (t : Tree) (f : Sym) → App f ≡ view_of t → is_destructor theory f ≡ false → IsRootFree theory t
  symbol_free (app g ts) f e h = let same : f ≡ g = cc in subst (λ (s : Sym). is_destructor theory s ≡ false) same h
  symbol_free (leaf x) f e h = tt

  pub symbol_not_free : (t : Tree) (f : Sym) → App f ≡ view_of t → is_destructor theory f ≡ true → ¬ IsRootFree theory t
  symbol_not_free (app g ts) f e h =
      let same : f ≡ g = cc in
      λ r. absurd (true≢false (sym (subst (λ (s : Sym). is_destructor theory s ≡ true) same h) ∙ r))
  symbol_not_free (leaf (public n)) f e h = absurd cc
  symbol_not_free (leaf (private n)) f e h = absurd cc
  symbol_not_free (leaf (var n)) f e h = absurd cc
  symbol_not_free (leaf (ax n)) f e h = absurd cc
  symbol_not_free (leaf (entry n)) f e h = absurd cc
  symbol_not_free (leaf (rigid n)) f e h = absurd cc

  root_of_free : (t : Tree) → IsFree theory t → IsRootFree theory t
  root_of_free (leaf x) h = tt
  root_of_free (app f ts) h = h.0

  pub free_inside : (t u : Tree) → IsFree theory t → IsSubterm u t → IsRootFree theory u
  free_inside t u h k = root_of_free u (built_subterm AnyLeaf (NoDestructor theory) h k)

  pub other_free : (t : Tree) → ((f : Sym) → view_of t ≡ App f → ⊥) → IsRootFree theory t
  other_free (app g ts) h = absurd (h g refl)
  other_free (leaf x) h = tt

  pub root_told : (t : Tree) (f : Sym) (b : Bool) → App f ≡ view_of t → b ≡ is_destructor theory f → MatchBool b (¬ IsRootFree theory t) (IsRootFree theory t)
  root_told t f true e h = symbol_not_free t f e (sym h)
  root_told t f false e h = symbol_free t f e (sym h)
