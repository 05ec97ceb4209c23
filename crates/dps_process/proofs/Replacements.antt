-- Replacement in processes.
use Rattle.std.proofs.Common.{◌≡◌, ℕ, ◌+◌, refl, sym, ◌∙◌, subst, inl, inr}
use Rattle.std.specs.Prelude.{◌≢◌, Bool, true, false, cond}
use Rattle.std.proofs.Math.Dec.{eqb}
use Rattle.std.proofs.lemmas.Bool.Decides.{eqb_tells}
use Rattle.dps_terms.specs.Tree.{Leaf, public, private, var, ax, entry, rigid, Tree, leaf, StandsIn}
use Rattle.dps_terms.specs.Replace.{replace, variables_to}
use Rattle.dps_terms.specs.Kinds.{IsNoVariable}
use Rattle.dps_terms.proofs.Replacing.{replace_stays}
use Rattle.dps_process.specs.Process.{Process, nil, parallel, choice, conditional, bind, input, output, but_for, replace_in, only, put, IsFree, IsClosedProcess, process_nodes}

-- a replacement leaves the variables that are free in a process, and all that is no variable
pub record Leaves (f : Leaf → Tree) (Free : ℕ → Type 0) : Type 0 where
  pub variables : (x : ℕ) → Free x → f (var x) ≡ leaf (var x)
  pub others : (l : Leaf) → IsNoVariable l → f l ≡ leaf l

leaf_left : (f : Leaf → Tree) (Free : ℕ → Type 0) (l : Leaf) → Leaves f Free → ((x : ℕ) → l ≡ var x → Free x) → f l ≡ leaf l
leaf_left f Free (public n) h k = h.others (public n) tt
leaf_left f Free (private n) h k = h.others (private n) tt
leaf_left f Free (var n) h k = h.variables n (k n refl)
leaf_left f Free (ax n) h k = h.others (ax n) tt
leaf_left f Free (entry n) h k = h.others (entry n) tt
leaf_left f Free (rigid n) h k = h.others (rigid n) tt

term_left : (f : Leaf → Tree) (Free : ℕ → Type 0) (u : Tree) → Leaves f Free → ((x : ℕ) → StandsIn (var x) u → Free x) → replace f u ≡ u
term_left f Free u h k = replace_stays f u (λ l s. leaf_left f Free l h (λ x e. k x (subst (λ (m : Leaf). StandsIn m u) e s)))

fewer : (f : Leaf → Tree) (Free Less : ℕ → Type 0) → ((x : ℕ) → Less x → Free x) → Leaves f Free → Leaves f Less
fewer f Free Less k h = record { variables = λ x l. h.variables x (k x l); others = h.others }

pub but_for_others : (y : ℕ) (f : Leaf → Tree) (l : Leaf) → IsNoVariable l → but_for y f l ≡ f l
but_for_others y f (public n) h = refl
but_for_others y f (private n) h = refl
but_for_others y f (var n) h = absurd h
but_for_others y f (ax n) h = refl
but_for_others y f (entry n) h = refl
but_for_others y f (rigid n) h = refl

but_for_variable : (y x : ℕ) (f : Leaf → Tree) (b : Bool) → (b ≡ false → f (var x) ≡ leaf (var x)) → cond b (leaf (var x)) (f (var x)) ≡ leaf (var x)
but_for_variable y x f true h = refl
but_for_variable y x f false h = h refl

pub different : (x y : ℕ) → eqb x y ≡ false → x ≢ y
different x y e f = elim (eqb_tells x y) [ inl p ↦ (let q : true ≡ false = sym p.0 ∙ e in cc) | inr p ↦ p.1 f ]

below_binder : (f : Leaf → Tree) (Free Inner : ℕ → Type 0) (y : ℕ) → ((x : ℕ) → x ≢ y → Inner x → Free x) → Leaves f Free → Leaves (but_for y f) Inner
below_binder f Free Inner y k h = record {
  variables = λ x i. but_for_variable y x f (eqb x y) (λ e. h.variables x (k x (different x y e) i));
  others = λ l n. but_for_others y f l n ∙ h.others l n;
}

abbrev free_in : Process → ℕ → Type 0
free_in p x = IsFree x p

pub replace_in_stays : (f : Leaf → Tree) (p : Process) → Leaves f (free_in p) → replace_in f p ≡ p
replace_in_stays f nil h = refl
replace_in_stays f (parallel p q) h =
    λ i. parallel (replace_in_stays f p (fewer f (free_in (parallel p q)) (free_in p) (λ x l. inl l) h) i) (replace_in_stays f q (fewer f (free_in (parallel p q)) (free_in q) (λ x l. inr l) h) i)
replace_in_stays f (choice p q) h =
    λ i. choice (replace_in_stays f p (fewer f (free_in (choice p q)) (free_in p) (λ x l. inl l) h) i) (replace_in_stays f q (fewer f (free_in (choice p q)) (free_in q) (λ x l. inr l) h) i)
replace_in_stays f (conditional u v p q) h =
    let Free : ℕ → Type 0 = free_in (conditional u v p q) in
    λ i. conditional (term_left f Free u h (λ x s. inl (inl s)) i) (term_left f Free v h (λ x s. inl (inr s)) i)
    (replace_in_stays f p (fewer f Free (free_in p) (λ x l. inr (inl l)) h) i) (replace_in_stays f q (fewer f Free (free_in q) (λ x l. inr (inr l)) h) i)
replace_in_stays f (bind y u p q) h =
    let Free : ℕ → Type 0 = free_in (bind y u p q) in
    λ i. bind y (term_left f Free u h (λ x s. inl s) i) (replace_in_stays (but_for y f) p (below_binder f Free (free_in p) y (λ x d l. inr (inl (d, l))) h) i)
    (replace_in_stays f q (fewer f Free (free_in q) (λ x l. inr (inr l)) h) i)
replace_in_stays f (input c y p) h =
    λ i. input c y (replace_in_stays (but_for y f) p (below_binder f (free_in (input c y p)) (free_in p) y (λ x d l. (d, l)) h) i)
replace_in_stays f (output c u p) h =
    let Free : ℕ → Type 0 = free_in (output c u p) in
    λ i. output c (term_left f Free u h (λ x s. inl s) i) (replace_in_stays f p (fewer f Free (free_in p) (λ x l. inr l) h) i)

pub variables_only : (z : ℕ → Tree) (l : Leaf) → IsNoVariable l → variables_to z l ≡ leaf l
variables_only z (public n) h = refl
variables_only z (private n) h = refl
variables_only z (var n) h = absurd h
variables_only z (ax n) h = refl
variables_only z (entry n) h = refl
variables_only z (rigid n) h = refl

pub closed_stays : (x : ℕ) (t : Tree) (p : Process) → IsClosedProcess p → put x t p ≡ p
closed_stays x t p h =
    replace_in_stays (variables_to (only x t)) p (record { variables = λ y l. absurd (h y l); others = variables_only (only x t) })

-- replacement changes no process node
pub process_nodes-replace_in : (f : Leaf → Tree) (p : Process) → process_nodes (replace_in f p) ≡ process_nodes p
process_nodes-replace_in f nil = refl
process_nodes-replace_in f (parallel p q) = λ i. 1 + process_nodes-replace_in f p i + process_nodes-replace_in f q i
process_nodes-replace_in f (choice p q) = λ i. 1 + process_nodes-replace_in f p i + process_nodes-replace_in f q i
process_nodes-replace_in f (conditional u v p q) = λ i. 1 + process_nodes-replace_in f p i + process_nodes-replace_in f q i
process_nodes-replace_in f (bind x u p q) = λ i. 1 + process_nodes-replace_in (but_for x f) p i + process_nodes-replace_in f q i
process_nodes-replace_in f (input c x p) = λ i. 1 + process_nodes-replace_in (but_for x f) p i
process_nodes-replace_in f (output c u p) = λ i. 1 + process_nodes-replace_in f p i
