-- One replacement in a process after another.
use Rattle.std.proofs.Common.{◌≡◌, ℕ, refl, sym, ◌∙◌, ap, subst, inl, inr}
use Rattle.std.specs.Prelude.{◌≢◌, Bool, true, false, cond}
use Rattle.std.proofs.Math.Dec.{eqb}
use Rattle.std.proofs.lemmas.Bool.Decides.{eqb_tells}
use Rattle.dps_terms.specs.Tree.{Leaf, public, private, var, ax, entry, rigid, Tree, leaf, StandsIn, itself}
use Rattle.dps_terms.specs.Replace.{replace, variables_to}
use Rattle.dps_terms.proofs.Replacing.{replace_in_turn, replace_agrees, replace_stays}
use Rattle.dps_process.specs.Process.{Process, nil, parallel, choice, conditional, bind, input, output, but_for, replace_in, only, EachBinder}
use Rattle.dps_process.specs.LawsOfReplacement.{IsFreshFor, IsFreeFor, ReplacementsInTurn, ReplacementCommutesWithPut}
use Rattle.dps_process.proofs.Replacements.{different}

number_of_variable : (m n : ℕ) → var m ≡ var n → m ≡ n
number_of_variable m n e = cc

equal : (x y : ℕ) → eqb x y ≡ true → x ≡ y
equal x y e = elim (eqb_tells x y) [ inl p ↦ p.1 | inr p ↦ absurd (let q : true ≡ false = sym e ∙ p.0 in cc) ]

-- the only leaf of a leaf
leaf_alone : (l m : Leaf) → StandsIn l (leaf m) → l ≡ m
leaf_alone l m itself = refl

-- the variable x is left, and all else is replaced
but_for_elsewhere : (x : ℕ) (g : Leaf → Tree) (l : Leaf) → l ≢ var x → but_for x g l ≡ g l
but_for_elsewhere x g (public n) d = refl
but_for_elsewhere x g (private n) d = refl
but_for_elsewhere x g (var n) d = at_variable (eqb n x) (λ e. d (ap var (equal n x e)))
  where
    at_variable : (b : Bool) → (b ≢ true) → cond b (leaf (var n)) (g (var n)) ≡ g (var n)
    at_variable true h = absurd (h refl)
    at_variable false h = refl
but_for_elsewhere x g (ax n) d = refl
but_for_elsewhere x g (entry n) d = refl
but_for_elsewhere x g (rigid n) d = refl

-- where x does not stand it does not matter
unbound : (x : ℕ) (g : Leaf → Tree) (t : Tree) → ¬ StandsIn (var x) t → replace (but_for x g) t ≡ replace g t
unbound x g t h = replace_agrees (but_for x g) g t (λ l s. but_for_elsewhere x g l (λ e. h (subst (λ (m : Leaf). StandsIn m t) e s)))

at_x : (x : ℕ) (g : Leaf → Tree) (n : ℕ) → eqb n x ≡ true → but_for x g (var n) ≡ leaf (var n)
at_x x g n e = ap (λ (b : Bool). cond b (leaf (var n)) (g (var n))) e

-- below a binder of x, leaf by leaf
below : (x : ℕ) (f g : Leaf → Tree) → IsFreshFor f x → (l : Leaf) → replace (but_for x g) (but_for x f l) ≡ but_for x (λ m. replace g (f m)) l
below x f g h (public n) = unbound x g (f (public n)) (h (public n) (λ e. cc))
below x f g h (private n) = unbound x g (f (private n)) (h (private n) (λ e. cc))
below x f g h (var n) = at_variable (eqb n x) (λ e. at_x x g n e) (λ e. h (var n) (λ d. different n x e (number_of_variable n x d)))
  where
    at_variable :
        (b : Bool) → (b ≡ true → but_for x g (var n) ≡ leaf (var n)) → (b ≡ false → ¬ StandsIn (var x) (f (var n)))
        → replace (but_for x g) (cond b (leaf (var n)) (f (var n))) ≡ cond b (leaf (var n)) (replace g (f (var n)))
    at_variable true e k = e refl
    at_variable false e k = unbound x g (f (var n)) (k refl)
below x f g h (ax n) = unbound x g (f (ax n)) (h (ax n) (λ e. cc))
below x f g h (entry n) = unbound x g (f (entry n)) (h (entry n) (λ e. cc))
below x f g h (rigid n) = unbound x g (f (rigid n)) (h (rigid n) (λ e. cc))

fresh_below : (x y : ℕ) (f : Leaf → Tree) → IsFreshFor f y → IsFreshFor (but_for x f) y
fresh_below x y f h (public n) d s = h (public n) d s
fresh_below x y f h (private n) d s = h (private n) d s
fresh_below x y f h (var n) d s = at_variable (eqb n x) s
  where
    at_variable : (b : Bool) → ¬ StandsIn (var y) (cond b (leaf (var n)) (f (var n)))
    at_variable true k = d (sym (leaf_alone (var y) (var n) k))
    at_variable false k = h (var n) d k
fresh_below x y f h (ax n) d s = h (ax n) d s
fresh_below x y f h (entry n) d s = h (entry n) d s
fresh_below x y f h (rigid n) d s = h (rigid n) d s

free_below : (x : ℕ) (f : Leaf → Tree) (p : Process) → IsFreeFor f p → IsFreeFor (but_for x f) p
free_below x f nil h = tt
free_below x f (parallel p q) h = (free_below x f p h.0, free_below x f q h.1)
free_below x f (choice p q) h = (free_below x f p h.0, free_below x f q h.1)
free_below x f (conditional u v p q) h = (free_below x f p h.0, free_below x f q h.1)
free_below x f (bind y u p q) h = (fresh_below x y f h.0, free_below x f p h.1, free_below x f q h.2)
free_below x f (input c y p) h = (fresh_below x y f h.0, free_below x f p h.1)
free_below x f (output c u p) h = free_below x f p h

abbrev in_turn : (Leaf → Tree) → (Leaf → Tree) → Leaf → Tree
in_turn f g l = replace g (f l)

below_in_turn : (x : ℕ) (f g : Leaf → Tree) (p : Process) → IsFreshFor f x → replace_in (in_turn (but_for x f) (but_for x g)) p ≡ replace_in (but_for x (in_turn f g)) p
below_in_turn x f g p h = λ i. replace_in (λ l. below x f g h l i) p

pub replacements_in_turn : ReplacementsInTurn
replacements_in_turn f g nil h = refl
replacements_in_turn f g (parallel p q) h = λ i. parallel (replacements_in_turn f g p h.0 i) (replacements_in_turn f g q h.1 i)
replacements_in_turn f g (choice p q) h = λ i. choice (replacements_in_turn f g p h.0 i) (replacements_in_turn f g q h.1 i)
replacements_in_turn f g (conditional u v p q) h =
    λ i. conditional (replace_in_turn f g u i) (replace_in_turn f g v i) (replacements_in_turn f g p h.0 i) (replacements_in_turn f g q h.1 i)
replacements_in_turn f g (bind x u p q) h =
    let inner = replacements_in_turn (but_for x f) (but_for x g) p (free_below x f p h.1) ∙ below_in_turn x f g p h.0 in
    λ i. bind x (replace_in_turn f g u i) (inner i) (replacements_in_turn f g q h.2 i)
replacements_in_turn f g (input c x p) h =
    let inner = replacements_in_turn (but_for x f) (but_for x g) p (free_below x f p h.1) ∙ below_in_turn x f g p h.0 in
    λ i. input c x (inner i)
replacements_in_turn f g (output c u p) h = λ i. output c (replace_in_turn f g u i) (replacements_in_turn f g p h i)

-- what is put for x alone is free for a process that binds no variable of it
put_is_fresh : (x : ℕ) (t : Tree) (y : ℕ) → ¬ StandsIn (var y) t → IsFreshFor (variables_to (only x t)) y
put_is_fresh x t y h (public n) d s = d (sym (leaf_alone (var y) (public n) s))
put_is_fresh x t y h (private n) d s = d (sym (leaf_alone (var y) (private n) s))
put_is_fresh x t y h (var n) d s = at_variable (eqb n x) s
  where
    at_variable : (b : Bool) → ¬ StandsIn (var y) (cond b t (leaf (var n)))
    at_variable true k = h k
    at_variable false k = d (sym (leaf_alone (var y) (var n) k))
put_is_fresh x t y h (ax n) d s = d (sym (leaf_alone (var y) (ax n) s))
put_is_fresh x t y h (entry n) d s = d (sym (leaf_alone (var y) (entry n) s))
put_is_fresh x t y h (rigid n) d s = d (sym (leaf_alone (var y) (rigid n) s))

each_put_is_fresh : (x : ℕ) (t : Tree) (p : Process) → EachBinder (λ y. ¬ StandsIn (var y) t) p → IsFreeFor (variables_to (only x t)) p
each_put_is_fresh x t nil h = tt
each_put_is_fresh x t (parallel p q) h = (each_put_is_fresh x t p h.0, each_put_is_fresh x t q h.1)
each_put_is_fresh x t (choice p q) h = (each_put_is_fresh x t p h.0, each_put_is_fresh x t q h.1)
each_put_is_fresh x t (conditional u v p q) h = (each_put_is_fresh x t p h.0, each_put_is_fresh x t q h.1)
each_put_is_fresh x t (bind y u p q) h = (put_is_fresh x t y h.0, each_put_is_fresh x t p h.1, each_put_is_fresh x t q h.2)
each_put_is_fresh x t (input c y p) h = (put_is_fresh x t y h.0, each_put_is_fresh x t p h.1)
each_put_is_fresh x t (output c u p) h = each_put_is_fresh x t p h

-- a term without x is left by what is put for x
left : (x : ℕ) (t u : Tree) → ¬ StandsIn (var x) u → replace (variables_to (only x t)) u ≡ u
left x t u h = replace_stays (variables_to (only x t)) u (λ l s. at l (λ e. h (subst (λ (m : Leaf). StandsIn m u) e s)))
  where
    at_variable : (n : ℕ) (b : Bool) → (b ≢ true) → cond b t (leaf (var n)) ≡ leaf (var n)
    at_variable n true k = absurd (k refl)
    at_variable n false k = refl

    at : (l : Leaf) → l ≢ var x → variables_to (only x t) l ≡ leaf l
    at (public n) d = refl
    at (private n) d = refl
    at (var n) d = at_variable n (eqb n x) (λ e. d (ap var (equal n x e)))
    at (ax n) d = refl
    at (entry n) d = refl
    at (rigid n) d = refl

-- both orders, leaf by leaf
orders : (f : Leaf → Tree) (x : ℕ) (t : Tree) → IsFreshFor f x → (l : Leaf) → replace f (variables_to (only x t) l) ≡ replace (variables_to (only x (replace f t))) (but_for x f l)
orders f x t h (public n) = sym (left x (replace f t) (f (public n)) (h (public n) (λ e. cc)))
orders f x t h (private n) = sym (left x (replace f t) (f (private n)) (h (private n) (λ e. cc)))
orders f x t h (var n) = at_variable (eqb n x) refl
  where
    at_variable : (b : Bool) → eqb n x ≡ b → replace f (cond b t (leaf (var n))) ≡ replace (variables_to (only x (replace f t))) (cond b (leaf (var n)) (f (var n)))
    at_variable true e = sym (ap (λ (c : Bool). cond c (replace f t) (leaf (var n))) e)
    at_variable false e = sym (left x (replace f t) (f (var n)) (h (var n) (λ d. different n x e (number_of_variable n x d))))
orders f x t h (ax n) = sym (left x (replace f t) (f (ax n)) (h (ax n) (λ e. cc)))
orders f x t h (entry n) = sym (left x (replace f t) (f (entry n)) (h (entry n) (λ e. cc)))
orders f x t h (rigid n) = sym (left x (replace f t) (f (rigid n)) (h (rigid n) (λ e. cc)))

pub replacement_commutes_with_put : ReplacementCommutesWithPut
replacement_commutes_with_put f x t p free fresh binds =
    let first = replacements_in_turn (variables_to (only x t)) f p (each_put_is_fresh x t p binds) in
    let second = replacements_in_turn (but_for x f) (variables_to (only x (replace f t))) p (free_below x f p free) in
    first ∙ ((λ i. replace_in (λ l. orders f x t fresh l i) p) ∙ sym second)
