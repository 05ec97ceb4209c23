-- Replacement and free variables below binders.
use Rattle.std.proofs.Common.{◌≡◌, ℕ, zero, suc, List, [], ◌∷◌, refl, sym, ◌∙◌, ap, subst, Some}
use Rattle.std.specs.Prelude.{◌↔◌, ◌==◌, ◌||◌, Bool, true, false, cond, IsTrue, slice_get}
use Rattle.std.proofs.lemmas.Option.{none-some}
use Rattle.dps_terms.specs.Tree.{Leaf, public, private, var, ax, entry, rigid, Tree, Trees, leaf, app, none, more, list_of, IsSubterm, IsAmong, itself, below, in_first, in_rest, StandsIn}
use Rattle.dps_terms.specs.Kinds.{IsNoVariable, IsClosed}
use Rattle.dps_terms.specs.Bindings.{bound}
use Rattle.dps_terms.specs.Views.{view_of, leaf_view, arguments}
use Rattle.dps_terms.specs.Leaves.{leaf_seen}
use Rattle.dps_terms.specs.declared.TermLeaf.{TermLeaf}
use Rattle.dps_terms.specs.declared.TermLeaf.TheVariants.{Public, Private, Var as VarLeaf, Ax, Entry, Rigid}
use Rattle.dps_terms.specs.declared.borrowed.TermView.TheVariants.{Var}
use Rattle.dps_terms.proofs.Building.{closed_has_none}
use Rattle.dps_process.specs.Process.{Process, nil, parallel, choice, conditional, bind, input, output, EachBinder}
use Rattle.dps_process.specs.Binders.{is_bound, but_for_all, HoldsOnly, CapturesNone}
use Rattle.dps_process.proofs.Replacements.{but_for_others}

-- a variable that is bound around stays
pub bound_stays : (xs : List ℕ) (f : Leaf → Tree) (y : ℕ) → is_bound xs y ≡ true → but_for_all xs f (var y) ≡ leaf (var y)
bound_stays [] f y e = cc
bound_stays (x ∷ xs) f y e = by (y == x) e (bound_stays xs f y)
  where
    by : (b : Bool) → (b || is_bound xs y) ≡ true → (is_bound xs y ≡ true → but_for_all xs f (var y) ≡ leaf (var y)) → cond b (leaf (var y)) (but_for_all xs f (var y)) ≡ leaf (var y)
    by true e h = refl
    by false e h = h e

-- and any other is replaced
pub unbound_changes : (xs : List ℕ) (f : Leaf → Tree) (y : ℕ) → is_bound xs y ≡ false → but_for_all xs f (var y) ≡ f (var y)
unbound_changes [] f y e = refl
unbound_changes (x ∷ xs) f y e = by (y == x) e (unbound_changes xs f y)
  where
    by : (b : Bool) → (b || is_bound xs y) ≡ false → (is_bound xs y ≡ false → but_for_all xs f (var y) ≡ f (var y)) → cond b (leaf (var y)) (but_for_all xs f (var y)) ≡ f (var y)
    by true e h = cc
    by false e h = h e

-- what is no variable becomes what it becomes elsewhere
others_change : (xs : List ℕ) (f : Leaf → Tree) (l : Leaf) → IsNoVariable l → but_for_all xs f l ≡ f l
others_change [] f l h = refl
others_change (x ∷ xs) f l h = but_for_others x (but_for_all xs f) l h ∙ others_change xs f l h

pub others_put : (xs : List ℕ) (f : Leaf → Tree) (l : TermLeaf) → ((n : ℕ) → ¬ (l ≡ VarLeaf n)) → but_for_all xs f (leaf_seen l) ≡ f (leaf_seen l)
others_put xs f (Public n) h = others_change xs f (public n) tt
others_put xs f (Private n) h = others_change xs f (private n) tt
others_put xs f (VarLeaf n) h = absurd (h n refl)
others_put xs f (Ax n) h = others_change xs f (ax n) tt
others_put xs f (Entry n) h = others_change xs f (entry n) tt
others_put xs f (Rigid n) h = others_change xs f (rigid n) tt

-- the term whose root shows a variable
pub variable_shown : (t : Tree) (n : ℕ) → view_of t ≡ Var n → t ≡ leaf (var n)
variable_shown (leaf (public m)) n e = absurd (cc)
variable_shown (leaf (private m)) n e = absurd (cc)
variable_shown (leaf (var m)) n e = let k : m ≡ n = cc in λ i. leaf (var (k i))
variable_shown (leaf (ax m)) n e = absurd (cc)
variable_shown (leaf (entry m)) n e = absurd (cc)
variable_shown (leaf (rigid m)) n e = absurd (cc)
variable_shown (app h ts) n e = absurd (cc)

-- a leaf that stands in an argument stands in the term
among : (l : Leaf) (ts : Trees) (j : ℕ) (u : Tree) → slice_get (list_of ts) j ≡ Some u → StandsIn l u → IsAmong (leaf l) ts
among l none j u e s = absurd (none-some u e)
among l (more t ts) zero u e s = let m : u ≡ t = cc in in_first (subst (IsSubterm (leaf l)) m s)
among l (more t ts) (suc j) u e s = in_rest (among l ts j u e s)

pub stands_above : (l : Leaf) (t : Tree) (j : ℕ) (u : Tree) → slice_get (arguments t) j ≡ Some u → StandsIn l u → StandsIn l t
stands_above l (leaf x) j u e s = absurd (none-some u e)
stands_above l (app f ts) j u e s = below (among l ts j u e s)

-- the term holds only these variables where its arguments do, and where it is none itself
each_holds : (xs : List ℕ) (ts : Trees) → ((j : ℕ) (u : Tree) → slice_get (list_of ts) j ≡ Some u → HoldsOnly xs u) → (y : ℕ) → IsAmong (leaf (var y)) ts → IsTrue (is_bound xs y)
each_holds xs none h y s = elim s [ ]
each_holds xs (more t ts) h y (in_first s) = h 0 t refl y s
each_holds xs (more t ts) h y (in_rest s) = each_holds xs ts (λ j u e. h (suc j) u e) y s

stands_in_leaf : (x : Leaf) (y : ℕ) → StandsIn (var y) (leaf x) → x ≡ var y
stands_in_leaf x y itself = refl

pub holds_by_arguments : (xs : List ℕ) (t : Tree) → ((n : ℕ) → ¬ (view_of t ≡ Var n)) → ((j : ℕ) (u : Tree) → slice_get (arguments t) j ≡ Some u → HoldsOnly xs u) → HoldsOnly xs t
holds_by_arguments xs (leaf x) v h = λ y s. absurd (v y (ap leaf_view (stands_in_leaf x y s)))
holds_by_arguments xs (app f ts) v h = at_app
  where
    at_app : (y : ℕ) → StandsIn (var y) (app f ts) → IsTrue (is_bound xs y)
    at_app y (below s) = each_holds xs ts h y s

-- a variable holds only these where it is one of them
pub holds_variable : (xs : List ℕ) (t : Tree) (n : ℕ) → view_of t ≡ Var n → IsTrue (is_bound xs n) ↔ HoldsOnly xs t
holds_variable xs t n e = (
  λ b y s. (let k : n ≡ y = cc (stands_in_leaf (var n) y (subst (StandsIn (var y)) (variable_shown t n e) s)) in subst (λ (z : ℕ). IsTrue (is_bound xs z)) k b),
  λ h. h n (subst (StandsIn (var n)) (sym (variable_shown t n e)) itself),
)

-- no closed term is captured
each_lets : (u : Tree) → IsClosed u → (p : Process) → EachBinder (λ y. ¬ StandsIn (var y) u) p
each_lets u h nil = tt
each_lets u h (parallel p q) = (each_lets u h p, each_lets u h q)
each_lets u h (choice p q) = (each_lets u h p, each_lets u h q)
each_lets u h (conditional v w p q) = (each_lets u h p, each_lets u h q)
each_lets u h (bind x v p q) = (λ s. (closed_has_none u).0 h x s, each_lets u h p, each_lets u h q)
each_lets u h (input c x p) = (λ s. (closed_has_none u).0 h x s, each_lets u h p)
each_lets u h (output c v p) = each_lets u h p

pub closed_capture_none : (pairs : List (ℕ × Tree)) (p : Process) → ((x : ℕ) (u : Tree) → bound pairs x ≡ Some u → IsClosed u) → CapturesNone pairs p
closed_capture_none pairs p h = λ x u e. each_lets u (h x u e) p
