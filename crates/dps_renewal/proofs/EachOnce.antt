-- Numbers that are taken each once, piece by piece.
use Rattle.std.proofs.Common.{◌≡◌, ℕ, ◌+◌, ◌<◌, ◌≤◌, List, [], ◌∷◌, ◌++◌, length, get_or, take, drop, add-one, drop-cons, Bool, true}
use Rattle.std.proofs.Common.{false, cond, not, filter, map, ◌||◌, nat_eq, refl, ap, sym, ◌∙◌, inl, inr}
use Rattle.std.specs.Prelude.{◌==◌, ◌⊎◌, ◌≢◌}
use Rattle.std.specs.List.{list_any, flat_map}
use Rattle.std.proofs.Math.Dec.{eqb}
use Rattle.std.proofs.lemmas.Bool.Decides.{eqb_tells}
use Rattle.std.proofs.Math.Seq.{take-suc}
use Rattle.std.proofs.lemmas.Grind.{flat_map-append}
use Rattle.std.proofs.lemmas.List.{drop_all, append-nil, map-append}
use Rattle.std.proofs.lemmas.List.Elements.{filter-append}
use Rattle.std.proofs.lemmas.List.Sums.{fold-append}
use Rattle.indexmap.specs.IndexSet.{insert_key, insert_all}
use Rattle.dps_terms.specs.Tree.{Tree}
use Rattle.dps_terms.specs.Variables.{occurrences, each_once, variables}
use Rattle.dps_terms.proofs.Finding.{found_once}

abbrev other : ℕ → ℕ → Bool
other n m = not (m == n)

-- two filters may be exchanged
filters_swap : (p q : ℕ → Bool) (xs : List ℕ) → filter p (filter q xs) ≡ filter q (filter p xs)
filters_swap p q [] = refl
filters_swap p q (x ∷ xs) = by (p x) (q x) refl refl (filters_swap p q xs)
  where
    by : (a b : Bool) → p x ≡ a → q x ≡ b → filter p (filter q xs) ≡ filter q (filter p xs) → filter p (cond b (x ∷ filter q xs) (filter q xs)) ≡ filter q (cond a (x ∷ filter p xs) (filter p xs))
    by true true e f h = rw (e, f) (ap (λ ys. x ∷ ys) h)
    by true false e f h = rw f h
    by false true e f h = rw e h
    by false false e f h = h

-- a filter that lets through less makes another one needless
filter_needless : (p q : ℕ → Bool) (xs : List ℕ) → ((x : ℕ) → p x ≡ true → q x ≡ true) → filter p (filter q xs) ≡ filter p xs
filter_needless p q [] h = refl
filter_needless p q (x ∷ xs) h = by (p x) (q x) refl refl (filter_needless p q xs h)
  where
    by : (a b : Bool) → p x ≡ a → q x ≡ b → filter p (filter q xs) ≡ filter p xs → filter p (cond b (x ∷ filter q xs) (filter q xs)) ≡ cond a (x ∷ filter p xs) (filter p xs)
    by true true e f r = rw e (ap (λ ys. x ∷ ys) r)
    by true false e f r = let k : true ≡ false = sym (h x e) ∙ f in cc
    by false true e f r = rw e r
    by false false e f r = r

filter_twice : (p : ℕ → Bool) (xs : List ℕ) → filter p (filter p xs) ≡ filter p xs
filter_twice p xs = filter_needless p p xs (λ x h. h)

passed_is_other : (p : ℕ → Bool) (n m : ℕ) → p n ≡ false → p m ≡ true → other n m ≡ true
passed_is_other p n m e f = by (eqb_tells m n)
  where
    by : ((eqb m n ≡ true) × (m ≡ n)) ⊎ ((eqb m n ≡ false) × (m ≢ n)) → other n m ≡ true
    by (inl h) = let k : true ≡ false = sym f ∙ ap p h.1 ∙ e in cc
    by (inr h) = ap not h.0

once_filtered : (p : ℕ → Bool) (xs : List ℕ) → each_once (filter p xs) ≡ filter p (each_once xs)
once_filtered p [] = refl
once_filtered p (x ∷ xs) = by (p x) refl (once_filtered p xs)
  where
    by :
        (b : Bool) → p x ≡ b → each_once (filter p xs) ≡ filter p (each_once xs)
        → each_once (cond b (x ∷ filter p xs) (filter p xs)) ≡ cond b (x ∷ filter p (filter (other x) (each_once xs))) (filter p (filter (other x) (each_once xs)))
    by true e h = ap (λ ys. x ∷ ys) (ap (filter (other x)) h ∙ filters_swap (other x) p (each_once xs))
    by false e h = h ∙ sym (filter_needless p (other x) (each_once xs) (λ y f. passed_is_other p x y e f))

once_again : (xs : List ℕ) → each_once (each_once xs) ≡ each_once xs
once_again [] = refl
once_again (x ∷ xs) =
    ap (λ ys. x ∷ ys)
    (ap (filter (other x)) (once_filtered (other x) (each_once xs) ∙ ap (filter (other x)) (once_again xs))
    ∙ filter_twice (other x) (each_once xs))

once_behind : (xs ys : List ℕ) → each_once (xs ++ each_once ys) ≡ each_once (xs ++ ys)
once_behind [] ys = once_again ys
once_behind (x ∷ xs) ys = ap (λ zs. x ∷ filter (other x) zs) (once_behind xs ys)

-- what was taken once, and then more of which each stands once
pub once_more : (xs ys : List ℕ) → insert_all nat_eq (each_once xs) (each_once ys) ≡ each_once (xs ++ ys)
once_more xs ys =
    ap (λ ks. insert_all nat_eq ks (each_once ys)) (sym (found_once xs))
    ∙ (sym (fold-append (insert_key nat_eq) [] xs (each_once ys)) ∙ (found_once (xs ++ each_once ys) ∙ once_behind xs ys))

-- a number is among the numbers that are taken once where it is among all
any_other : (x n : ℕ) (ys : List ℕ) → x ≢ n → list_any (nat_eq x) (filter (other n) ys) ≡ list_any (nat_eq x) ys
any_other x n [] h = refl
any_other x n (y ∷ ys) h = by (eqb_tells y n) (eqb_tells x y) (any_other x n ys h)
  where
    by : ((eqb y n ≡ true) × (y ≡ n)) ⊎ ((eqb y n ≡ false) × (y ≢ n)) → ((eqb x y ≡ true) × (x ≡ y)) ⊎ ((eqb x y ≡ false) × (x ≢ y))
        → list_any (nat_eq x) (filter (other n) ys) ≡ list_any (nat_eq x) ys → list_any (nat_eq x) (filter (other n) (y ∷ ys)) ≡ list_any (nat_eq x) (y ∷ ys)
    by (inl e) (inl f) r = absurd (h (f.1 ∙ e.1))
    by (inl e) (inr f) r = rw (e.0, f.0) r
    by (inr e) f r = rw e.0 (ap (λ b. nat_eq x y || b) r)

pub among_once : (x : ℕ) (xs : List ℕ) → list_any (nat_eq x) (each_once xs) ≡ list_any (nat_eq x) xs
among_once x [] = refl
among_once x (n ∷ ns) = by (eqb_tells x n) (among_once x ns)
  where
    by : ((eqb x n ≡ true) × (x ≡ n)) ⊎ ((eqb x n ≡ false) × (x ≢ n)) → list_any (nat_eq x) (each_once ns) ≡ list_any (nat_eq x) ns
        → list_any (nat_eq x) (each_once (n ∷ ns)) ≡ list_any (nat_eq x) (n ∷ ns)
    by (inl e) r = rw e.0 refl
    by (inr e) r = ap (λ b. nat_eq x n || b) (any_other x n (each_once ns) e.1 ∙ r)

-- one number more, and all of them
pub number_next : (ks xs : List ℕ) (i d : ℕ) → i < length xs → insert_all nat_eq ks (drop i xs) ≡ insert_all nat_eq (insert_key nat_eq ks (get_or xs i d)) (drop (i + 1) xs)
number_next ks xs i d h = rw (add-one, drop-cons xs i d) refl

pub numbers_all : (ks xs : List ℕ) (i : ℕ) → length xs ≤ i → insert_all nat_eq ks (drop i xs) ≡ ks
numbers_all ks xs i h = ap (insert_all nat_eq ks) (drop_all i xs h)

-- one number more, which is let through or not
pub once_next : (ks xs : List ℕ) (x : ℕ) → ks ≡ each_once xs → insert_key nat_eq ks x ≡ each_once (xs ++ x ∷ [])
once_next ks xs x e = ap (λ ys. insert_key nat_eq ys x) e ∙ once_more xs (x ∷ [])

filter_next : (p : ℕ → Bool) (xs : List ℕ) (i d : ℕ) → i < length xs → filter p (take (i + 1) xs) ≡ filter p (take i xs) ++ filter p (get_or xs i d ∷ [])
filter_next p xs i d h = ap (filter p) (ap (λ n. take n xs) (add-one i) ∙ take-suc xs i d h) ∙ filter-append p (take i xs) (get_or xs i d ∷ [])

pub passes_once : (p : ℕ → Bool) (ks xs : List ℕ) (i d : ℕ) → i < length xs → p (get_or xs i d) ≡ true → ks ≡ each_once (filter p (take i xs))
    → insert_key nat_eq ks (get_or xs i d) ≡ each_once (filter p (take (i + 1) xs))
passes_once p ks xs i d h t e =
    once_next ks (filter p (take i xs)) (get_or xs i d) e
    ∙ ap (λ ys. each_once (filter p (take i xs) ++ ys)) (sym (ap (λ b. cond b (get_or xs i d ∷ []) []) t))
    ∙ ap each_once (sym (filter_next p xs i d h))

pub stops_once : (p : ℕ → Bool) (ks xs : List ℕ) (i d : ℕ) → i < length xs → p (get_or xs i d) ≡ false → ks ≡ each_once (filter p (take i xs))
    → ks ≡ each_once (filter p (take (i + 1) xs))
stops_once p ks xs i d h t e =
    e
    ∙ ap each_once
    (sym (append-nil (filter p (take i xs)))
    ∙ ap (λ ys. filter p (take i xs) ++ ys) (sym (ap (λ b. cond b (get_or xs i d ∷ []) []) t))
    ∙ sym (filter_next p xs i d h))

-- the numbers of a list of which each stands once that are not among others
pub others_once : (own known xs : List ℕ) → known ≡ insert_all nat_eq [] own
    → each_once (filter (λ y. not (list_any (nat_eq y) known)) (each_once xs)) ≡ filter (λ y. not (list_any (nat_eq y) own)) (each_once xs)
others_once own known xs e =
    let k : known ≡ each_once own = e ∙ found_once own in
    let same : (λ (y : ℕ). not (list_any (nat_eq y) known)) ≡ (λ (y : ℕ). not (list_any (nat_eq y) own)) =
    (λ i y. not ((ap (list_any (nat_eq y)) k ∙ among_once y own) i)) in
    once_filtered (λ y. not (list_any (nat_eq y) known)) (each_once xs)
    ∙ ap (filter (λ y. not (list_any (nat_eq y) known))) (once_again xs)
    ∙ ap (λ p. filter p (each_once xs)) same

-- one element more
pub one_more : {A : Type 0} (xs : List A) (i : ℕ) (d : A) → i < length xs → take (i + 1) xs ≡ take i xs ++ get_or xs i d ∷ []
one_more xs i d h = rw add-one (take-suc xs i d h)

-- the variables of one binding more
pub next_binding : (b : ℕ → Tree) (xs : List ℕ) (i d : ℕ) → i < length xs
    → insert_all nat_eq (each_once (flat_map occurrences (map b (take i xs)))) (variables (b (get_or xs i d))) ≡ each_once (flat_map occurrences (map b (take (i + 1) xs)))
next_binding b xs i d h =
    let more : map b (take (i + 1) xs) ≡ map b (take i xs) ++ b (get_or xs i d) ∷ [] =
    ap (map b) (one_more xs i d h) ∙ map-append b (take i xs) (get_or xs i d ∷ []) in
    once_more (flat_map occurrences (map b (take i xs))) (occurrences (b (get_or xs i d)))
    ∙ ap each_once
    (ap (λ ys. flat_map occurrences (map b (take i xs)) ++ ys) (sym (append-nil (occurrences (b (get_or xs i d)))))
    ∙ sym (flat_map-append occurrences (map b (take i xs)) (b (get_or xs i d) ∷ []))
    ∙ ap (flat_map occurrences) (sym more))
