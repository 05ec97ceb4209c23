-- Replacements in processes that agree on what is free.
use Rattle.std.proofs.Common.{◌≡◌, ℕ, refl, ◌∙◌, inl, inr}
use Rattle.std.specs.Prelude.{◌≢◌, Bool, true, false, cond}
use Rattle.std.proofs.Math.Dec.{eqb}
use Rattle.std.proofs.lemmas.Bool.{eqb-true}
use Rattle.dps_terms.specs.declared.Sym.{Sym}
use Rattle.dps_terms.specs.Tree.{Leaf, public, private, var, ax, entry, rigid, Tree, leaf, StandsIn}
use Rattle.dps_terms.specs.Replace.{replace}
use Rattle.dps_terms.specs.Kinds.{IsBuiltOf, IsNoVariable}
use Rattle.dps_terms.proofs.Building.{built_instance}
use Rattle.dps_terms.proofs.Replacing.{replace_agrees}
use Rattle.dps_process.specs.Process.{Process, nil, parallel, choice, conditional, bind, input, output, but_for, replace_in, IsFree, EachTerm, EachChannel, EachBinder}
use Rattle.dps_process.proofs.Replacements.{different}
use Rattle.dps_faithful.proofs.Leaves.{leaf_of_instance, alone}

pub record Agree (f h : Leaf → Tree) (Free : ℕ → Type 0) : Type 0 where
  pub variables : (x : ℕ) → Free x → f (var x) ≡ h (var x)
  pub others : (l : Leaf) → IsNoVariable l → f l ≡ h l

fewer : (f h : Leaf → Tree) (Free Less : ℕ → Type 0) → ((x : ℕ) → Less x → Free x) → Agree f h Free → Agree f h Less
fewer f h Free Less k a = record { variables = λ x l. a.variables x (k x l); others = a.others }

agree_in : (f h : Leaf → Tree) (u : Tree) (Free : ℕ → Type 0) → ((x : ℕ) → StandsIn (var x) u → Free x) → Agree f h Free → replace f u ≡ replace h u
agree_in f h u Free k a = replace_agrees f h u at
  where
    at : (l : Leaf) → StandsIn l u → f l ≡ h l
    at (public n) s = a.others (public n) tt
    at (private n) s = a.others (private n) tt
    at (var n) s = a.variables n (k n s)
    at (ax n) s = a.others (ax n) tt
    at (entry n) s = a.others (entry n) tt
    at (rigid n) s = a.others (rigid n) tt

below_variable : (y x : ℕ) (f h : Leaf → Tree) (b : Bool) → (b ≡ false → f (var x) ≡ h (var x)) → cond b (leaf (var x)) (f (var x)) ≡ cond b (leaf (var x)) (h (var x))
below_variable y x f h true k = refl
below_variable y x f h false k = k refl

below_others : (y : ℕ) (f h : Leaf → Tree) → ((l : Leaf) → IsNoVariable l → f l ≡ h l) → (l : Leaf) → IsNoVariable l → but_for y f l ≡ but_for y h l
below_others y f h k (public n) s = k (public n) s
below_others y f h k (private n) s = k (private n) s
below_others y f h k (var n) s = absurd s
below_others y f h k (ax n) s = k (ax n) s
below_others y f h k (entry n) s = k (entry n) s
below_others y f h k (rigid n) s = k (rigid n) s

below_binder : (f h : Leaf → Tree) (Free Inner : ℕ → Type 0) (y : ℕ) → ((x : ℕ) → x ≢ y → Inner x → Free x) → Agree f h Free → Agree (but_for y f) (but_for y h) Inner
below_binder f h Free Inner y k a = record {
  variables = λ x i. below_variable y x f h (eqb x y) (λ e. a.variables x (k x (different x y e) i));
  others = below_others y f h a.others;
}

abbrev pub free_in : Process → ℕ → Type 0
free_in p x = IsFree x p

pub replace_in_agrees : (f h : Leaf → Tree) (p : Process) → Agree f h (free_in p) → replace_in f p ≡ replace_in h p
replace_in_agrees f h nil a = refl
replace_in_agrees f h (parallel p q) a =
    let Free : ℕ → Type 0 = free_in (parallel p q) in
    λ i. parallel (replace_in_agrees f h p (fewer f h Free (free_in p) (λ x l. inl l) a) i) (replace_in_agrees f h q (fewer f h Free (free_in q) (λ x l. inr l) a) i)
replace_in_agrees f h (choice p q) a =
    let Free : ℕ → Type 0 = free_in (choice p q) in
    λ i. choice (replace_in_agrees f h p (fewer f h Free (free_in p) (λ x l. inl l) a) i) (replace_in_agrees f h q (fewer f h Free (free_in q) (λ x l. inr l) a) i)
replace_in_agrees f h (conditional u v p q) a =
    let Free : ℕ → Type 0 = free_in (conditional u v p q) in
    λ i. conditional (agree_in f h u Free (λ x s. inl (inl s)) a i) (agree_in f h v Free (λ x s. inl (inr s)) a i)
    (replace_in_agrees f h p (fewer f h Free (free_in p) (λ x l. inr (inl l)) a) i) (replace_in_agrees f h q (fewer f h Free (free_in q) (λ x l. inr (inr l)) a) i)
replace_in_agrees f h (bind y u p q) a =
    let Free : ℕ → Type 0 = free_in (bind y u p q) in
    λ i. bind y (agree_in f h u Free (λ x s. inl s) a i)
    (replace_in_agrees (but_for y f) (but_for y h) p (below_binder f h Free (free_in p) y (λ x d l. inr (inl (d, l))) a) i)
    (replace_in_agrees f h q (fewer f h Free (free_in q) (λ x l. inr (inr l)) a) i)
replace_in_agrees f h (input c y p) a =
    λ i. input c y (replace_in_agrees (but_for y f) (but_for y h) p (below_binder f h (free_in (input c y p)) (free_in p) y (λ x d l. (d, l)) a) i)
replace_in_agrees f h (output c u p) a =
    let Free : ℕ → Type 0 = free_in (output c u p) in
    λ i. output c (agree_in f h u Free (λ x s. inl s) a i) (replace_in_agrees f h p (fewer f h Free (free_in p) (λ x l. inr l) a) i)

pub each_binder : (P Q : ℕ → Type 0) (p : Process) → ((x : ℕ) → P x → Q x) → EachBinder P p → EachBinder Q p
each_binder P Q nil k h = tt
each_binder P Q (parallel p q) k h = (each_binder P Q p k h.0, each_binder P Q q k h.1)
each_binder P Q (choice p q) k h = (each_binder P Q p k h.0, each_binder P Q q k h.1)
each_binder P Q (conditional u v p q) k h = (each_binder P Q p k h.0, each_binder P Q q k h.1)
each_binder P Q (bind y u p q) k h = (k y h.0, each_binder P Q p k h.1, each_binder P Q q k h.2)
each_binder P Q (input c y p) k h = (k y h.0, each_binder P Q p k h.1)
each_binder P Q (output c u p) k h = each_binder P Q p k h

-- what a replaced process holds
pub channels_kept : (P : ℕ → Type 0) (f : Leaf → Tree) (p : Process) → EachChannel P p → EachChannel P (replace_in f p)
channels_kept P f nil h = tt
channels_kept P f (parallel p q) h = (channels_kept P f p h.0, channels_kept P f q h.1)
channels_kept P f (choice p q) h = (channels_kept P f p h.0, channels_kept P f q h.1)
channels_kept P f (conditional u v p q) h = (channels_kept P f p h.0, channels_kept P f q h.1)
channels_kept P f (bind x u p q) h = (channels_kept P (but_for x f) p h.0, channels_kept P f q h.1)
channels_kept P f (input c x p) h = (h.0, channels_kept P (but_for x f) p h.1)
channels_kept P f (output c u p) h = (h.0, channels_kept P f p h.1)

pub binders_kept : (P : ℕ → Type 0) (f : Leaf → Tree) (p : Process) → EachBinder P p → EachBinder P (replace_in f p)
binders_kept P f nil h = tt
binders_kept P f (parallel p q) h = (binders_kept P f p h.0, binders_kept P f q h.1)
binders_kept P f (choice p q) h = (binders_kept P f p h.0, binders_kept P f q h.1)
binders_kept P f (conditional u v p q) h = (binders_kept P f p h.0, binders_kept P f q h.1)
binders_kept P f (bind x u p q) h = (h.0, binders_kept P (but_for x f) p h.1, binders_kept P f q h.2)
binders_kept P f (input c x p) h = (h.0, binders_kept P (but_for x f) p h.1)
binders_kept P f (output c u p) h = binders_kept P f p h

-- terms that are built of L and S stay so, where each leaf becomes such a term
module _ (L : Leaf → Type 0) (S : Sym → ℕ → Type 0) (variables : (n : ℕ) → L (var n)) where
  abbrev Keeps : (Leaf → Tree) → Type 0
  Keeps f = (z : Leaf) → L z → IsBuiltOf L S (f z)

  kept_variable : (f : Leaf → Tree) (n : ℕ) (b : Bool) → IsBuiltOf L S (f (var n)) → IsBuiltOf L S (cond b (leaf (var n)) (f (var n)))
  kept_variable f n true h = variables n
  kept_variable f n false h = h

  below_keeps : (x : ℕ) (f : Leaf → Tree) → Keeps f → Keeps (but_for x f)
  below_keeps x f k (public n) h = k (public n) h
  below_keeps x f k (private n) h = k (private n) h
  below_keeps x f k (var n) h = kept_variable f n (eqb n x) (k (var n) h)
  below_keeps x f k (ax n) h = k (ax n) h
  below_keeps x f k (entry n) h = k (entry n) h
  below_keeps x f k (rigid n) h = k (rigid n) h

  term_kept : (f : Leaf → Tree) (u : Tree) → Keeps f → IsBuiltOf L S u → IsBuiltOf L S (replace f u)
  term_kept f u k h = built_instance L S L f u h (λ z st l. k z l)

  pub terms_kept : (f : Leaf → Tree) (p : Process) → Keeps f → EachTerm (IsBuiltOf L S) p → EachTerm (IsBuiltOf L S) (replace_in f p)
  terms_kept f nil k h = tt
  terms_kept f (parallel p q) k h = (terms_kept f p k h.0, terms_kept f q k h.1)
  terms_kept f (choice p q) k h = (terms_kept f p k h.0, terms_kept f q k h.1)
  terms_kept f (conditional u v p q) k h = (term_kept f u k h.0, term_kept f v k h.1, terms_kept f p k h.2, terms_kept f q k h.3)
  terms_kept f (bind x u p q) k h = (term_kept f u k h.0, terms_kept (but_for x f) p (below_keeps x f k) h.1, terms_kept f q k h.2)
  terms_kept f (input c x p) k h = terms_kept (but_for x f) p (below_keeps x f k) h
  terms_kept f (output c u p) k h = (term_kept f u k h.0, terms_kept f p k h.1)

-- where a free variable comes from
pub record FreeFrom (f : Leaf → Tree) (Free : ℕ → Type 0) (x : ℕ) : Type 0 where
  pub y : ℕ
  pub free : Free y
  pub stands : StandsIn (var x) (f (var y))

-- what is no variable becomes nothing with variables
abbrev pub Closes : (Leaf → Tree) → Type 0
Closes f = (z : Leaf) → IsNoVariable z → (x : ℕ) → ¬ StandsIn (var x) (f z)

closes_below : (y : ℕ) (f : Leaf → Tree) → Closes f → Closes (but_for y f)
closes_below y f k (public n) h x s = k (public n) h x s
closes_below y f k (private n) h x s = k (private n) h x s
closes_below y f k (var n) h x s = absurd h
closes_below y f k (ax n) h x s = k (ax n) h x s
closes_below y f k (entry n) h x s = k (entry n) h x s
closes_below y f k (rigid n) h x s = k (rigid n) h x s

from_term : (f : Leaf → Tree) (u : Tree) (x : ℕ) → Closes f → StandsIn (var x) (replace f u) → (y : ℕ) × StandsIn (var y) u × StandsIn (var x) (f (var y))
from_term f u x k h = let z = leaf_of_instance f (var x) u h in at z.0 z.1 z.2
  where
    at : (z : Leaf) → StandsIn z u → StandsIn (var x) (f z) → (y : ℕ) × StandsIn (var y) u × StandsIn (var x) (f (var y))
    at (public n) s i = absurd (k (public n) tt x i)
    at (private n) s i = absurd (k (private n) tt x i)
    at (var n) s i = (n, s, i)
    at (ax n) s i = absurd (k (ax n) tt x i)
    at (entry n) s i = absurd (k (entry n) tt x i)
    at (rigid n) s i = absurd (k (rigid n) tt x i)

wider_from : (f : Leaf → Tree) (Less Free : ℕ → Type 0) (x : ℕ) → ((y : ℕ) → Less y → Free y) → FreeFrom f Less x → FreeFrom f Free x
wider_from f Less Free x k h = record { y = h.y; free = k h.y h.free; stands = h.stands }

term_from : (f : Leaf → Tree) (u : Tree) (Free : ℕ → Type 0) (x : ℕ) → Closes f → ((y : ℕ) → StandsIn (var y) u → Free y) → StandsIn (var x) (replace f u) → FreeFrom f Free x
term_from f u Free x k w h = let d = from_term f u x k h in record { y = d.0; free = w d.0 d.1; stands = d.2 }

-- below a binder z a variable other than z comes from one other than z
not_bound : (z y x : ℕ) (f : Leaf → Tree) (b : Bool) → eqb y z ≡ b → x ≢ z → StandsIn (var x) (cond b (leaf (var y)) (f (var y))) → (y ≢ z) × StandsIn (var x) (f (var y))
not_bound z y x f true e d h =
    absurd (let same : var x ≡ var y = alone (var x) (var y) h in let number : x ≡ y = cc in d (number ∙ equal y z e))
  where
    equal : (i j : ℕ) → eqb i j ≡ true → i ≡ j
    equal i j q = eqb-true i j q
not_bound z y x f false e d h = (different y z e, h)

below_from : (z : ℕ) (f : Leaf → Tree) (Inner Free : ℕ → Type 0) (x : ℕ) → x ≢ z → ((y : ℕ) → y ≢ z → Inner y → Free y) → FreeFrom (but_for z f) Inner x → FreeFrom f Free x
below_from z f Inner Free x d w h =
    let k = not_bound z h.y x f (eqb h.y z) refl d h.stands in record { y = h.y; free = w h.y k.0 h.free; stands = k.1 }

pub free_from : (f : Leaf → Tree) (p : Process) (x : ℕ) → Closes f → IsFree x (replace_in f p) → FreeFrom f (free_in p) x
free_from f nil x k h = absurd h
free_from f (parallel p q) x k (inl h) = wider_from f (free_in p) (free_in (parallel p q)) x (λ y l. inl l) (free_from f p x k h)
free_from f (parallel p q) x k (inr h) = wider_from f (free_in q) (free_in (parallel p q)) x (λ y l. inr l) (free_from f q x k h)
free_from f (choice p q) x k (inl h) = wider_from f (free_in p) (free_in (choice p q)) x (λ y l. inl l) (free_from f p x k h)
free_from f (choice p q) x k (inr h) = wider_from f (free_in q) (free_in (choice p q)) x (λ y l. inr l) (free_from f q x k h)
free_from f (conditional u v p q) x k (inl (inl h)) = term_from f u (free_in (conditional u v p q)) x k (λ y s. inl (inl s)) h
free_from f (conditional u v p q) x k (inl (inr h)) = term_from f v (free_in (conditional u v p q)) x k (λ y s. inl (inr s)) h
free_from f (conditional u v p q) x k (inr (inl h)) = wider_from f (free_in p) (free_in (conditional u v p q)) x (λ y l. inr (inl l)) (free_from f p x k h)
free_from f (conditional u v p q) x k (inr (inr h)) = wider_from f (free_in q) (free_in (conditional u v p q)) x (λ y l. inr (inr l)) (free_from f q x k h)
free_from f (bind z u p q) x k (inl h) = term_from f u (free_in (bind z u p q)) x k (λ y s. inl s) h
free_from f (bind z u p q) x k (inr (inl h)) =
    below_from z f (free_in p) (free_in (bind z u p q)) x h.0 (λ y d l. inr (inl (d, l))) (free_from (but_for z f) p x (closes_below z f k) h.1)
free_from f (bind z u p q) x k (inr (inr h)) = wider_from f (free_in q) (free_in (bind z u p q)) x (λ y l. inr (inr l)) (free_from f q x k h)
free_from f (input c z p) x k h = below_from z f (free_in p) (free_in (input c z p)) x h.0 (λ y d l. (d, l)) (free_from (but_for z f) p x (closes_below z f k) h.1)
free_from f (output c u p) x k (inl h) = term_from f u (free_in (output c u p)) x k (λ y s. inl s) h
free_from f (output c u p) x k (inr h) = wider_from f (free_in p) (free_in (output c u p)) x (λ y l. inr l) (free_from f p x k h)
