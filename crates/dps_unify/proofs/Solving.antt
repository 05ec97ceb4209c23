-- The solution, binding by binding and node by node.
use Rattle.std.proofs.Common.{◌≡◌, ℕ, ◌+◌, List, [], ◌∷◌, ◌++◌, length, map, take, drop, Some, None, refl, sym, ◌∙◌, ap, add-one}
use Rattle.std.specs.Prelude.{slice_get}
use Rattle.dps_terms.specs.declared.Sym.{Sym}
use Rattle.dps_terms.specs.declared.TermView.TheVariants.{App, Var}
use Rattle.dps_terms.specs.Tree.{public, private, var, ax, entry, rigid, Tree, leaf, app, trees, list_of}
use Rattle.dps_terms.specs.Replace.{substitute, substitute_all, variables_to}
use Rattle.dps_terms.specs.Views.{view_of, arguments}
use Rattle.dps_terms.specs.Bindings.{bound, IsDistinct}
use Rattle.dps_terms.proofs.Arguments.{replace_trees}
use Rattle.dps_terms.proofs.Subterms.{trees-list_of}
use Rattle.dps_unify.proofs.Unifying.{with_second, later_is_free, solved_next}

instance_of_app : (z : ℕ → Tree) (t : Tree) (f : Sym) → App f ≡ view_of t → substitute z t ≡ app f (trees (map (substitute z) (arguments t)))
instance_of_app z (leaf (public n)) f e = cc
instance_of_app z (leaf (private n)) f e = cc
instance_of_app z (leaf (var n)) f e = cc
instance_of_app z (leaf (ax n)) f e = cc
instance_of_app z (leaf (entry n)) f e = cc
instance_of_app z (leaf (rigid n)) f e = cc
instance_of_app z (app g ts) f e =
    let m : g ≡ f = cc in
    λ i. app (m i) ((ap (substitute_all z) (sym (trees-list_of ts)) ∙ replace_trees (variables_to z) (list_of ts)) i)

-- a symbol is put over what was made of its arguments
pub applied_next : (z : ℕ → Tree) (s : Tree) (f : Sym) (n : ℕ) (stack : List Tree) → App f ≡ view_of s → n ≡ length (arguments s)
    → take (length (arguments s)) stack ≡ map (substitute z) (arguments s) → app f (trees (take n stack)) ∷ drop n stack ≡ substitute z s ∷ drop (length (arguments s)) stack
applied_next z s f n stack e l made =
    ap (λ k. app f (trees (take k stack)) ∷ drop k stack) l
    ∙ ap (λ u. u ∷ drop (length (arguments s)) stack) (ap (λ us. app f (trees us)) made ∙ sym (instance_of_app z s f e))

-- what shows no symbol has no arguments, and what is no variable either becomes itself
pub alone : (s : Tree) → ((f : Sym) → view_of s ≡ App f → ⊥) → length (arguments s) ≡ 0
alone (leaf x) h = refl
alone (app f ts) h = absurd (h f refl)

pub unchanged : (z : ℕ → Tree) (s : Tree) → ((f : Sym) → view_of s ≡ App f → ⊥) → ((n : ℕ) → view_of s ≡ Var n → ⊥) → substitute z s ≡ s
unchanged z (app f ts) h k = absurd (h f refl)
unchanged z (leaf (public n)) h k = refl
unchanged z (leaf (private n)) h k = refl
unchanged z (leaf (var n)) h k = absurd (k n refl)
unchanged z (leaf (ax n)) h k = refl
unchanged z (leaf (entry n)) h k = refl
unchanged z (leaf (rigid n)) h k = refl

-- one more binding
pub solution_next : (F : Tree → Tree) (b : List (ℕ × Tree)) (i x : ℕ) (t y : Tree) (done after : List (ℕ × Tree)) → slice_get b i ≡ Some (x, t) → done ≡ map (with_second F) (take i b)
    → y ≡ F t → after ≡ done ++ (x, y) ∷ [] → after ≡ map (with_second F) (take (i + 1) b)
solution_next F b i x t y done after e d h a =
    a ∙ (λ j. d j ++ (x, h j) ∷ []) ∙ sym (solved_next F b i (x, t) e) ∙ ap (λ k. map (with_second F) (take k b)) (sym (add-one i))

pub later_is_free_in : (F : Tree → Tree) (b : List (ℕ × Tree)) (i x : ℕ) (t : Tree) (done : List (ℕ × Tree)) → IsDistinct b → slice_get b i ≡ Some (x, t)
    → done ≡ map (with_second F) (take i b) → bound done x ≡ None
later_is_free_in F b i x t done h e d = ap (λ s. bound s x) d ∙ later_is_free F b i (x, t) h e
