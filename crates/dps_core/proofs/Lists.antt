-- Lists by place, and how often a ticket stands in them.
use Rattle.std.proofs.Common.{◌≡◌, ℕ, zero, suc, ◌+◌, ◌<◌, ◌≤◌, List, [], ◌∷◌, ◌++◌, length, map, Option, Some, None, Bool, true, false, cond, eqb, refl, ap, ◌∙◌, sym, ◌⊎◌, inl, inr, arith}
use Rattle.std.specs.Prelude.{slice_get, slice_set, ◌==◌, replicate, IsTrue, take, drop}
use Rattle.std.proofs.Common.{get_or}
use Rattle.std.specs.List.{list_any}
use Rattle.std.proofs.lemmas.Bool.Decides.{nat_tests}
use Rattle.std.proofs.lemmas.Option.{same_Some, none-some}
use Rattle.dps_core.specs.declared.event.Mark.TheVariants.{Open}
use Rattle.dps_core.specs.declared.rows.Row.{Row}
use Rattle.dps_core.specs.Book.{row, kids}
use Rattle.dps_core.specs.Pool.{times, times_in, without, tickets}

one_more_place : {A : Type 0} (xs : List A) (t : ℕ) (y : A) (u : ℕ) (r : A) → ((u ≡ t) × (r ≡ y)) ⊎ ((u ≡ t → ⊥) × (slice_get xs u ≡ Some r))
    → ((suc u ≡ suc t) × (r ≡ y)) ⊎ ((suc u ≡ suc t → ⊥) × (slice_get xs u ≡ Some r))
one_more_place xs t y u r (inl h) = inl (ap suc h.0, h.1)
one_more_place xs t y u r (inr h) = inr ((λ g. h.0 (omega (arith, g))), h.1)

pub set-cases : {A : Type 0} (xs : List A) (t : ℕ) (y : A) (u : ℕ) (r : A) → slice_get (slice_set xs t y) u ≡ Some r → ((u ≡ t) × (r ≡ y)) ⊎ ((u ≡ t → ⊥) × (slice_get xs u ≡ Some r))
set-cases [] t y u r e = absurd (none-some r e)
set-cases (x ∷ xs) zero y zero r e = inl (refl, sym (same_Some y r e))
set-cases (x ∷ xs) zero y (suc u) r e = inr ((λ h. omega (arith, h)), e)
set-cases (x ∷ xs) (suc t) y zero r e = inr ((λ h. omega (arith, h)), e)
set-cases (x ∷ xs) (suc t) y (suc u) r e = one_more_place xs t y u r (set-cases xs t y u r e)

pub set-at : {A : Type 0} (xs : List A) (t : ℕ) (x y : A) → slice_get xs t ≡ Some x → slice_get (slice_set xs t y) t ≡ Some y
set-at [] t x y e = absurd (none-some x e)
set-at (z ∷ xs) zero x y e = refl
set-at (z ∷ xs) (suc t) x y e = set-at xs t x y e

pub set-other : {A : Type 0} (xs : List A) (t : ℕ) (y : A) (u : ℕ) → (u ≡ t → ⊥) → slice_get (slice_set xs t y) u ≡ slice_get xs u
set-other [] t y u h = refl
set-other (x ∷ xs) zero y zero h = absurd (h refl)
set-other (x ∷ xs) zero y (suc u) h = refl
set-other (x ∷ xs) (suc t) y zero h = refl
set-other (x ∷ xs) (suc t) y (suc u) h = set-other xs t y u (λ g. h (ap suc g))

pub append-left : {A : Type 0} (xs ys : List A) (u : ℕ) (r : A) → slice_get xs u ≡ Some r → slice_get (xs ++ ys) u ≡ Some r
append-left [] ys u r e = absurd (none-some r e)
append-left (x ∷ xs) ys zero r e = e
append-left (x ∷ xs) ys (suc u) r e = append-left xs ys u r e

append_more : {A : Type 0} (x : A) (xs ys : List A) (u : ℕ) (r : A) → (slice_get xs u ≡ Some r) ⊎ ((j : ℕ) × (u ≡ length xs + j) × (slice_get ys j ≡ Some r))
    → (slice_get xs u ≡ Some r) ⊎ ((j : ℕ) × (suc u ≡ length (x ∷ xs) + j) × (slice_get ys j ≡ Some r))
append_more x xs ys u r (inl h) = inl h
append_more x xs ys u r (inr h) = inr (h.0, omega (arith, h.1), h.2)

pub append-cases : {A : Type 0} (xs ys : List A) (u : ℕ) (r : A) → slice_get (xs ++ ys) u ≡ Some r → (slice_get xs u ≡ Some r) ⊎ ((j : ℕ) × (u ≡ length xs + j) × (slice_get ys j ≡ Some r))
append-cases [] ys u r e = inr (u, omega arith, e)
append-cases (x ∷ xs) ys zero r e = inl e
append-cases (x ∷ xs) ys (suc u) r e = append_more x xs ys u r (append-cases xs ys u r e)

pub map-cases : {A B : Type 0} (f : A → B) (xs : List A) (u : ℕ) (r : B) → slice_get (map f xs) u ≡ Some r → (x : A) × (slice_get xs u ≡ Some x) × (r ≡ f x)
map-cases f [] u r e = absurd (none-some r e)
map-cases f (x ∷ xs) zero r e = (x, refl, sym (same_Some (f x) r e))
map-cases f (x ∷ xs) (suc u) r e = map-cases f xs u r e

pub map-at : {A B : Type 0} (f : A → B) (xs : List A) (u : ℕ) (x : A) → slice_get xs u ≡ Some x → slice_get (map f xs) u ≡ Some (f x)
map-at f [] u x e = absurd (none-some x e)
map-at f (y ∷ xs) zero x e = ap (λ z. Some (f z)) (same_Some y x e)
map-at f (y ∷ xs) (suc u) x e = map-at f xs u x e

pub kids-get : (p : List ℕ) (i n j : ℕ) (r : Row) → slice_get (kids p i n) j ≡ Some r → (j < n) × (r ≡ row (p ++ (i + j) ∷ []) Open)
kids-get p i zero j r e = absurd (none-some r e)
kids-get p i (suc n) zero r e = (omega arith, sym (same_Some (row (p ++ i ∷ []) Open) r e) ∙ ap (λ k. row (p ++ k ∷ []) Open) (let h : i ≡ i + 0 = omega arith in h))
kids-get p i (suc n) (suc j) r e =
    let h = kids-get p (suc i) n j r e in
    let k : suc i + j ≡ i + suc j = omega arith in
    (omega (arith, h.0), h.1 ∙ ap (λ k. row (p ++ k ∷ []) Open) k)

pub length-kids : (p : List ℕ) (i n : ℕ) → length (kids p i n) ≡ n
length-kids p i zero = refl
length-kids p i (suc n) = omega (arith, length-kids p (suc i) n)

pub times-append : (t : ℕ) (xs ys : List ℕ) → times t (xs ++ ys) ≡ times t xs + times t ys
times-append t [] ys = omega arith
times-append t (x ∷ xs) ys = omega (arith, times-append t xs ys)

pub times-without : (t u : ℕ) (xs : List ℕ) → 0 < times t xs → times u (without t xs) + times u (t ∷ []) ≡ times u xs
times-without t u [] h = absurd (omega (arith, h))
times-without t u (x ∷ xs) h = grind (arith, nat_tests, times-without t u xs)

pub times-without_le : (t u : ℕ) (xs : List ℕ) → times u (without t xs) ≤ times u xs
times-without_le t u [] = omega arith
times-without_le t u (x ∷ xs) = grind (arith, nat_tests, times-without_le t u xs)

pub times-set : (t w : ℕ) (lists : List (List ℕ)) (xs ys : List ℕ) → slice_get lists w ≡ Some xs → times_in t (slice_set lists w ys) + times t xs ≡ times_in t lists + times t ys
times-set t w [] xs ys e = absurd (none-some xs e)
times-set t zero (z ∷ lists) xs ys e = omega (arith, ap (times t) (same_Some z xs e))
times-set t (suc w) (z ∷ lists) xs ys e = omega (arith, times-set t w lists xs ys e)

pub times-tickets_below : (t first n : ℕ) → t < first → times t (tickets first n) ≡ 0
times-tickets_below t first zero h = refl
times-tickets_below t first (suc n) h = grind (arith, nat_tests, times-tickets_below t (suc first) n)

pub times-tickets_past : (t first n : ℕ) → first + n ≤ t → times t (tickets first n) ≡ 0
times-tickets_past t first zero h = refl
times-tickets_past t first (suc n) h = grind (arith, nat_tests, times-tickets_past t (suc first) n)

pub times-tickets_there : (t first n : ℕ) → first ≤ t → t < first + n → times t (tickets first n) ≡ 1
times-tickets_there t first zero h k = absurd (omega (arith, h, k))
times-tickets_there t first (suc n) h k = grind (arith, nat_tests, times-tickets_there t (suc first) n, times-tickets_below t (suc first) n)

pub times-one : (t : ℕ) → times t (t ∷ []) ≡ 1
times-one t = grind (arith, nat_tests)

pub times-nobody : (t n : ℕ) → times_in t (replicate n []) ≡ 0
times-nobody t zero = refl
times-nobody t (suc n) = omega (arith, times-nobody t n)

pub times-other : (t u : ℕ) → (t ≡ u → ⊥) → times u (t ∷ []) ≡ 0
times-other t u h = grind (arith, nat_tests)

pub without-other : (t u : ℕ) (xs : List ℕ) → (t ≡ u → ⊥) → times u (without t xs) ≡ times u xs
without-other t u [] h = refl
without-other t u (x ∷ xs) h = grind (arith, nat_tests, without-other t u xs)

pub times-tickets_once : (t first n : ℕ) → times t (tickets first n) ≤ 1
times-tickets_once t first zero = omega arith
times-tickets_once t first (suc n) = grind (arith, nat_tests, times-tickets_once t (suc first) n, times-tickets_below t (suc first) n)

pub any-times : (t : ℕ) (xs : List ℕ) → IsTrue (list_any (λ y. eqb y t) xs) → 0 < times t xs
any-times t [] h = absurd (let z : false ≡ true = h in cc)
any-times t (x ∷ xs) h = grind (arith, nat_tests, any-times t xs)

pub times-any : (t : ℕ) (xs : List ℕ) → 0 < times t xs → IsTrue (list_any (λ y. eqb y t) xs)
times-any t [] h = absurd (omega (arith, h))
times-any t (x ∷ xs) h = grind (arith, nat_tests, times-any t xs)

pub without-none : (t : ℕ) (xs : List ℕ) → times t xs ≡ 0 → xs ≡ without t xs
without-none t [] h = refl
without-none t (x ∷ xs) h = grind (arith, nat_tests, without-none t xs)

pub without-first : (d t i : ℕ) (xs : List ℕ) → i < length xs → get_or xs i d ≡ t → times t (take i xs) ≡ 0 → take i xs ++ drop (suc i) xs ≡ without t xs
without-first d t i [] l e z = absurd (omega (arith, l))
without-first d t zero (x ∷ xs) l e z = grind (arith, nat_tests)
without-first d t (suc i) (x ∷ xs) l e z = grind (arith, nat_tests, without-first d t i xs)

pub times-take_more : (d t i : ℕ) (xs : List ℕ) → i < length xs → (get_or xs i d ≡ t → ⊥) → times t (take i xs) ≡ 0 → times t (take (suc i) xs) ≡ 0
times-take_more d t i [] l n z = absurd (omega (arith, l))
times-take_more d t zero (x ∷ xs) l n z = grind (arith, nat_tests)
times-take_more d t (suc i) (x ∷ xs) l n z = grind (arith, nat_tests, times-take_more d t i xs)

pub replicate-push : (n : ℕ) → replicate {A = List ℕ} n [] ++ [] ∷ [] ≡ replicate {A = List ℕ} (suc n) []
replicate-push zero = refl
replicate-push (suc n) = ap (λ (r : List (List ℕ)). [] ∷ r) (replicate-push n)

pub without-taken : (t i : ℕ) (xs : List ℕ) → length xs ≤ i → times t (take i xs) ≡ 0 → xs ≡ without t xs
without-taken t i [] l e = refl
without-taken t zero (x ∷ xs) l e = absurd (omega (arith, l))
without-taken t (suc i) (x ∷ xs) l e = grind (arith, nat_tests, without-taken t i xs)

pub front : (xs : List ℕ) (t : ℕ) → slice_get xs 0 ≡ Some t → xs ≡ t ∷ drop 1 xs
front [] t e = absurd (none-some t e)
front (x ∷ xs) t e = ap (λ (k : ℕ). k ∷ xs) (same_Some x t e)

pub front_rest : (xs : List ℕ) (t : ℕ) (deck : List ℕ) → xs ≡ t ∷ deck → drop 1 xs ≡ deck
front_rest xs t deck e = ap (drop 1) e

kids_more : (p : List ℕ) (i n : ℕ) → kids p i n ++ row (p ++ (i + n) ∷ []) Open ∷ [] ≡ kids p i (suc n)
kids_more p i zero = ap (λ k. row (p ++ k ∷ []) Open ∷ []) (let h : i + 0 ≡ i = omega arith in h)
kids_more p i (suc n) =
    let k : i + suc n ≡ suc i + n = omega arith in
    ap (λ (rows : List Row). row (p ++ i ∷ []) Open ∷ rows) (ap (λ m. kids p (suc i) n ++ row (p ++ m ∷ []) Open ∷ []) k ∙ kids_more p (suc i) n)

tickets_more : (first n : ℕ) → tickets first n ++ (first + n) ∷ [] ≡ tickets first (suc n)
tickets_more first zero = ap (λ k. k ∷ []) (let h : first + 0 ≡ first = omega arith in h)
tickets_more first (suc n) =
    let k : first + suc n ≡ suc first + n = omega arith in
    ap (λ (rest : List ℕ). first ∷ rest) (ap (λ m. tickets (suc first) n ++ m ∷ []) k ∙ tickets_more (suc first) n)

pub kids-next : (p : List ℕ) (n : ℕ) → kids p 0 n ++ row (p ++ n ∷ []) Open ∷ [] ≡ kids p 0 (n + 1)
kids-next p n =
    let a : n ≡ 0 + n = omega arith in
    let b : suc n ≡ n + 1 = omega arith in
    ap (λ k. kids p 0 n ++ row (p ++ k ∷ []) Open ∷ []) a ∙ kids_more p 0 n ∙ ap (kids p 0) b

pub tickets-next : (first n : ℕ) → tickets first n ++ (first + n) ∷ [] ≡ tickets first (n + 1)
tickets-next first n = let b : suc n ≡ n + 1 = omega arith in tickets_more first n ∙ ap (tickets first) b

pub set-append : {A : Type 0} (xs ys : List A) (t : ℕ) (x y : A) → slice_get xs t ≡ Some x → slice_set (xs ++ ys) t y ≡ slice_set xs t y ++ ys
set-append [] ys t x y e = absurd (none-some x e)
set-append (z ∷ xs) ys zero x y e = refl
set-append (z ∷ xs) ys (suc t) x y e = ap (λ (r : List _). z ∷ r) (set-append xs ys t x y e)

pub set-same : {A : Type 0} (xs : List A) (w : ℕ) (x : A) → slice_get xs w ≡ Some x → slice_set xs w x ≡ xs
set-same [] w x e = refl
set-same (y ∷ xs) zero x e = ap (λ (z : _). z ∷ xs) (sym (same_Some y x e))
set-same (y ∷ xs) (suc w) x e = ap (λ (r : List _). y ∷ r) (set-same xs w x e)
