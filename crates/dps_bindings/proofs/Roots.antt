-- What the roots of terms are when terms are put for variables.
use Rattle.std.proofs.Common.{◌≡◌, ℕ, List, Some, None, refl, sym, ◌∙◌, ap}
use Rattle.dps_terms.specs.declared.borrowed.TermView.TheVariants.{Var}
use Rattle.dps_terms.specs.Tree.{public, private, var, ax, entry, rigid, Tree, leaf, app}
use Rattle.dps_terms.specs.Replace.{substitute}
use Rattle.dps_terms.specs.Bindings.{bound, image}
use Rattle.dps_terms.specs.Views.{view_of}
use Rattle.dps_unify.proofs.Bound.{image_none, image_some}

-- the term that a view of a variable is of
pub variable_is : (t : Tree) (w : ℕ) → view_of t ≡ Var w → t ≡ leaf (var w)
variable_is (leaf (var x)) w e = let d : x ≡ w = cc in λ i. leaf (var (d i))
variable_is (leaf (public n)) w e = cc
variable_is (leaf (private n)) w e = cc
variable_is (leaf (ax n)) w e = cc
variable_is (leaf (entry n)) w e = cc
variable_is (leaf (rigid n)) w e = cc
variable_is (app f ts) w e = cc

-- what is put for variables leaves any other root
pub root_stays : (z : ℕ → Tree) (t : Tree) → ((n : ℕ) → view_of t ≡ Var n → ⊥) → view_of t ≡ view_of (substitute z t)
root_stays z (leaf (var x)) h = absurd (h x refl)
root_stays z (leaf (public n)) h = refl
root_stays z (leaf (private n)) h = refl
root_stays z (leaf (ax n)) h = refl
root_stays z (leaf (entry n)) h = refl
root_stays z (leaf (rigid n)) h = refl
root_stays z (app f ts) h = refl

-- a variable that has a term, and one that has none
pub root_put : (b : List (ℕ × Tree)) (t u : Tree) (n : ℕ) → view_of t ≡ Var n → bound b n ≡ Some u → view_of u ≡ view_of (substitute (image b) t)
root_put b t u n e h = ap view_of (sym (ap (substitute (image b)) (variable_is t n e) ∙ image_some b n u h))

pub root_free : (b : List (ℕ × Tree)) (t : Tree) (n : ℕ) → view_of t ≡ Var n → bound b n ≡ None → view_of t ≡ view_of (substitute (image b) t)
root_free b t n e h = ap view_of (variable_is t n e ∙ sym (ap (substitute (image b)) (variable_is t n e) ∙ image_none b n h))
