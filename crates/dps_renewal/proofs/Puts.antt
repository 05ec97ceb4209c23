-- What is put for variables, one variable after another.
use Rattle.std.proofs.Common.{◌≡◌, ℕ, ◌+◌, ◌<◌, length, get_or, take, append_assoc, Bool, true, false, cond, ◌||◌, nat_eq, List, [], ◌∷◌}
use Rattle.std.proofs.Common.{◌++◌, Option, Some, None, Bor, unwrap_or, refl, ap, sym, subst, ◌∙◌, inl, inr}
use Rattle.std.proofs.lemmas.List.{append-nil}
use Rattle.dps_renewal.proofs.EachOnce.{one_more}
use Rattle.std.specs.Prelude.{◌≢◌, ◌⊎◌}
use Rattle.std.proofs.Math.Dec.{eqb}
use Rattle.std.proofs.lemmas.Bool.Decides.{eqb_tells}
use Rattle.std.proofs.lemmas.List.Folds.{list_any-append}
use Rattle.std.specs.Option.{is_some, option_copied}
use Rattle.dps_terms.specs.Tree.{var, Tree, leaf}
use Rattle.dps_terms.specs.Bindings.{bound, image}
use Rattle.dps_terms.specs.Same.{same, same-true, same-self}
use Rattle.dps_unify.proofs.Bound.{bound-push_some, bound-push_none}
use Rattle.dps_renewal.specs.Numbering.{is_among}
use Rattle.dps_renewal.specs.Putting.{change, PutsFor, PutsNothing}

-- a list with one number more holds it, and else what it held
pub among_more : (y x : ℕ) (xs : List ℕ) → is_among y (xs ++ x ∷ []) ≡ (is_among y xs || nat_eq y x)
among_more y x xs = list_any-append (nat_eq y) xs (x ∷ []) ∙ ap (λ b. is_among y xs || b) (or_false (nat_eq y x))
  where
    or_false : (b : Bool) → (b || false) ≡ b
    or_false true = refl
    or_false false = refl

pub change_none : (z : ℕ → Tree) (x : ℕ) → z x ≡ leaf (var x) → change z x ≡ None
change_none z x e = ap (λ t. cond (same t (leaf (var x))) None (Some t)) e ∙ ap (λ b. cond b None (Some (leaf (var x)))) (same-self (leaf (var x)))

pub change_some : (z : ℕ → Tree) (x : ℕ) → z x ≢ leaf (var x) → change z x ≡ Some (z x)
change_some z x n = by (same (z x) (leaf (var x))) refl
  where
    by : (b : Bool) → same (z x) (leaf (var x)) ≡ b → cond b None (Some (z x)) ≡ Some (z x)
    by true e = absurd (n (same-true (z x) (leaf (var x)) e))
    by false e = refl

-- what is bound for a variable of the list, and for others
abbrev wanted : (ℕ → Tree) → Bool → ℕ → Option Tree
wanted z b y = cond b (change z y) None

-- the variable is put already, or stays
pub put_kept : (z : ℕ → Tree) (xs : List ℕ) (x : ℕ) (pairs : List (ℕ × Tree)) → PutsFor z xs pairs → (is_among x xs ≡ true) ⊎ (z x ≡ leaf (var x)) → PutsFor z (xs ++ x ∷ []) pairs
put_kept z xs x pairs h o y = h y ∙ by (is_among y xs) (eqb_tells y x) refl ∙ sym (ap (λ b. wanted z b y) (among_more y x xs))
  where
    at_x : (is_among x xs ≡ true) ⊎ (z x ≡ leaf (var x)) → is_among x xs ≡ false → change z x ≡ None
    at_x (inl e) f = let d : true ≡ false = sym e ∙ f in cc
    at_x (inr e) f = change_none z x e

    by : (b : Bool) → ((eqb y x ≡ true) × (y ≡ x)) ⊎ ((eqb y x ≡ false) × (y ≢ x)) → is_among y xs ≡ b → wanted z b y ≡ wanted z (b || nat_eq y x) y
    by true t e = refl
    by false (inl t) e = sym (ap (λ b. wanted z b y) (t.0) ∙ ap (change z) t.1 ∙ at_x o (sym (ap (λ k. is_among k xs) t.1) ∙ e))
    by false (inr t) e = sym (ap (λ b. wanted z b y) (t.0))

-- one more is put
pub put_more :
    (z : ℕ → Tree) (xs : List ℕ) (x : ℕ) (t : Tree) (pairs : List (ℕ × Tree)) → PutsFor z xs pairs → bound pairs x ≡ None
    → t ≡ z x → t ≢ leaf (var x) → PutsFor z (xs ++ x ∷ []) (pairs ++ (x, t) ∷ [])
put_more z xs x t pairs h none e n y = by (eqb_tells y x) ∙ sym (ap (λ b. wanted z b y) (among_more y x xs))
  where
    one : (b : Bool) → nat_eq y x ≡ b → bound ((x, t) ∷ []) y ≡ cond b (Some t) None
    one b f = ap (λ c. cond c (Some t) None) f

    or_true : (b : Bool) → (b || true) ≡ true
    or_true true = refl
    or_true false = refl

    or_false : (b : Bool) → (b || false) ≡ b
    or_false true = refl
    or_false false = refl

    other : (o : Option Tree) → bound pairs y ≡ o → nat_eq y x ≡ false → bound (pairs ++ (x, t) ∷ []) y ≡ o
    other None f g = bound-push_none pairs (x, t) y f ∙ one false g
    other (Some u) f g = bound-push_some pairs (x, t) y u f

    by : ((eqb y x ≡ true) × (y ≡ x)) ⊎ ((eqb y x ≡ false) × (y ≢ x)) → bound (pairs ++ (x, t) ∷ []) y ≡ wanted z (is_among y xs || nat_eq y x) y
    by (inl f) =
        bound-push_none pairs (x, t) y (ap (bound pairs) f.1 ∙ none)
        ∙ one true f.0
        ∙ ap Some e
        ∙ sym (change_some z x (λ k. n (e ∙ k)))
        ∙ ap (change z) (sym f.1)
        ∙ sym (ap (λ b. wanted z b y) (ap (λ b. is_among y xs || b) f.0 ∙ or_true (is_among y xs)))
    by (inr f) =
        other (bound pairs y) refl f.0
        ∙ h y
        ∙ sym (ap (λ b. wanted z b y) (ap (λ b. is_among y xs || b) f.0 ∙ or_false (is_among y xs)))

-- what is bound stands in the list, and is put
pub among_bound : (z : ℕ → Tree) (xs : List ℕ) (x : ℕ) (u : Tree) (pairs : List (ℕ × Tree)) → PutsFor z xs pairs → bound pairs x ≡ Some u → (is_among x xs ≡ true) × (u ≡ z x) × (z x ≢ leaf (var x))
among_bound z xs x u pairs h e = by (is_among x xs) (same (z x) (leaf (var x))) refl refl (sym e ∙ h x)
  where
    by : (a b : Bool) → is_among x xs ≡ a → same (z x) (leaf (var x)) ≡ b → Some u ≡ cond a (cond b None (Some (z x))) None → (is_among x xs ≡ true) × (u ≡ z x) × (z x ≢ leaf (var x))
    by true true f g k = cc
    by true false f g k = (f, cc, λ m. let d : true ≡ false = sym (same-self (leaf (var x))) ∙ sym (ap (λ t. same t (leaf (var x))) m) ∙ g in cc)
    by false b f g k = cc

-- nothing is put for others
pub puts_nothing : (z : ℕ → Tree) (xs : List ℕ) (pairs : List (ℕ × Tree)) → PutsFor z xs pairs → PutsNothing xs pairs
puts_nothing z xs pairs h x e = h x ∙ ap (λ b. wanted z b x) e

-- so what is put is z, where z leaves all others
pub put_image : (z : ℕ → Tree) (xs : List ℕ) (pairs : List (ℕ × Tree)) → PutsFor z xs pairs → ((x : ℕ) → is_among x xs ≡ false → z x ≡ leaf (var x)) → image pairs ≡ z
put_image z xs pairs h others = λ i x. each x i
  where
    by : (x : ℕ) (a b : Bool) → is_among x xs ≡ a → same (z x) (leaf (var x)) ≡ b → unwrap_or (cond a (cond b None (Some (z x))) None) (leaf (var x)) ≡ z x
    by x true true f g = sym (same-true (z x) (leaf (var x)) g)
    by x true false f g = refl
    by x false b f g = sym (others x f)

    each : (x : ℕ) → image pairs x ≡ z x
    each x = ap (λ o. unwrap_or o (leaf (var x))) (h x) ∙ by x (is_among x xs) (same (z x) (leaf (var x))) refl refl

-- nothing is put at first
pub nothing_put : (z : ℕ → Tree) → PutsFor z [] []
nothing_put z x = refl

-- what is bound is put already
pub put_before : (z : ℕ → Tree) (xs : List ℕ) (x : ℕ) (u : Tree) (pairs : List (ℕ × Tree)) → PutsFor z xs pairs → bound pairs x ≡ Some u → PutsFor z (xs ++ x ∷ []) pairs
put_before z xs x u pairs h e = put_kept z xs x pairs h (inl ((among_bound z xs x u pairs h e).0))

-- a step from the first variables of a list to one more
pub put_next : (z : ℕ → Tree) (xs vs : List ℕ) (i d : ℕ) (pairs : List (ℕ × Tree)) → i < length vs → PutsFor z ((xs ++ take i vs) ++ get_or vs i d ∷ []) pairs → PutsFor z (xs ++ take (i + 1) vs) pairs
put_next z xs vs i d pairs h p =
    subst (λ ys. PutsFor z ys pairs) (append_assoc xs (take i vs) (get_or vs i d ∷ []) ∙ ap (λ ys. xs ++ ys) (sym (one_more vs i d h))) p

pub put_first : (z : ℕ → Tree) (xs vs : List ℕ) (pairs : List (ℕ × Tree)) → PutsFor z xs pairs → PutsFor z (xs ++ take 0 vs) pairs
put_first z xs vs pairs p = subst (λ ys. PutsFor z ys pairs) (sym (append-nil xs)) p

-- by what a look-up answers
pub not_found : (o : Option (Bor Tree)) (bound_one : Option Tree) → is_some o ≡ false → option_copied o ≡ bound_one → bound_one ≡ None
not_found None b n e = sym e
not_found (Some u) b n e = cc

pub put_found :
    (z : ℕ → Tree) (xs : List ℕ) (x : ℕ) (pairs : List (ℕ × Tree)) (o : Option (Bor Tree)) → is_some o ≡ true
    → option_copied o ≡ bound pairs x → PutsFor z xs pairs → PutsFor z (xs ++ x ∷ []) pairs
put_found z xs x pairs None n e h = cc
put_found z xs x pairs (Some u) n e h = put_before z xs x u.now pairs h (sym e)
