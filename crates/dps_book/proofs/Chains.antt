-- Chains of tickets: what stands in them, and how links that change lead on.
use Rattle.std.proofs.Common.{◌≡◌, ℕ, ◌+◌, ◌<◌, ◌≤◌, List, [], ◌∷◌, ◌++◌, length, Option, Some, None, refl, ap, ◌∙◌, sym, subst, ◌⊎◌, inl, inr, arith}
use Rattle.std.specs.Prelude.{slice_get}
use Rattle.std.proofs.lemmas.Bool.{cases_eq, cases_lt}
use Rattle.std.proofs.lemmas.Bool.Decides.{nat_tests}
use Rattle.std.proofs.lemmas.Option.{same_Some, none-some, slice_get_within}
use Rattle.dps_core.specs.Pool.{times}
use Rattle.dps_core.proofs.Lists.{times-append}
use Rattle.dps_book.specs.InOrder.{first_of, Leads, AreOnce}

pub times-here : (t : ℕ) (xs : List ℕ) → times t (t ∷ xs) ≡ 1 + times t xs
times-here t xs = grind (arith, nat_tests)

pub times-there : (t u : ℕ) (xs : List ℕ) → (t ≡ u → ⊥) → times u (t ∷ xs) ≡ times u xs
times-there t u xs n = grind (arith, nat_tests, n)

pub times-more : (t u : ℕ) (xs : List ℕ) → times u xs ≤ times u (t ∷ xs)
times-more t u xs = omega arith

-- where a ticket stands, the list is what is before it, the ticket, and what is behind it
pub record IsSplit (t : ℕ) (xs : List ℕ) : Type 0 where
  pub front : List ℕ
  pub behind : List ℕ
  pub is : xs ≡ front ++ t ∷ behind

split_more : (x t : ℕ) (xs : List ℕ) → (1 ≤ times t xs → IsSplit t xs) → 1 ≤ times t (x ∷ xs) → (x ≡ t) ⊎ (x ≡ t → ⊥) → IsSplit t (x ∷ xs)
split_more x t xs more h (inl e) = record { front = []; behind = xs; is = ap (λ (k : ℕ). k ∷ xs) e }
split_more x t xs more h (inr n) =
    let k = more (omega (arith, h, times-there x t xs n)) in
    record { front = x ∷ k.front; behind = k.behind; is = ap (λ (r : List ℕ). x ∷ r) k.is }

pub split-at : (t : ℕ) (xs : List ℕ) → 1 ≤ times t xs → IsSplit t xs
split-at t [] h = absurd (omega (arith, h))
split-at t (x ∷ xs) h = split_more x t xs (split-at t xs) h (cases_eq x t)

pub times-split : (u t : ℕ) (xs ys : List ℕ) → times u (xs ++ t ∷ ys) ≡ times u xs + times u (t ∷ ys)
times-split u t xs ys = times-append u xs (t ∷ ys)

-- the ticket itself stands neither before nor behind
pub once-front : (t : ℕ) (xs ys : List ℕ) → AreOnce (xs ++ t ∷ ys) → times t xs ≡ 0
once-front t xs ys o = omega (arith, o t, times-split t t xs ys, times-here t ys)

pub once-behind : (t : ℕ) (xs ys : List ℕ) → AreOnce (xs ++ t ∷ ys) → times t ys ≡ 0
once-behind t xs ys o = omega (arith, o t, times-split t t xs ys, times-here t ys)

pub once-suffix : (xs ys : List ℕ) → AreOnce (xs ++ ys) → AreOnce ys
once-suffix xs ys o = λ u. omega (arith, o u, times-append u xs ys)

pub leads-suffix : (next : List (Option ℕ)) (xs ys : List ℕ) → Leads next (xs ++ ys) → Leads next ys
leads-suffix next [] ys l = l
leads-suffix next (x ∷ xs) ys l = leads-suffix next xs ys l.1

pub leads-past : (next : List (Option ℕ)) (xs : List ℕ) (u : ℕ) → Leads next xs → length next ≤ u → times u xs ≡ 0
leads-past next [] u l h = refl
leads-past next (x ∷ xs) u l h =
    let w : x < length next = slice_get_within next x (first_of xs) l.0 in
    times-there x u xs (λ e. omega (arith, e, w, h)) ∙ leads-past next xs u l.1 h

pub leads-keep : (next new : List (Option ℕ)) (xs : List ℕ) → ((u : ℕ) → 1 ≤ times u xs → slice_get new u ≡ slice_get next u) → Leads next xs → Leads new xs
leads-keep next new [] same l = tt
leads-keep next new (x ∷ xs) same l =
    (same x (omega (arith, times-here x xs)) ∙ l.0, leads-keep next new xs (λ u h. same u (omega (arith, h, times-more x u xs))) l.1)

first_front : (xs : List ℕ) (t : ℕ) (ys zs : List ℕ) → first_of (xs ++ t ∷ ys) ≡ first_of (xs ++ t ∷ zs)
first_front [] t ys zs = refl
first_front (x ∷ xs) t ys zs = refl

-- other tickets come behind t, and the links before it are the same
pub leads-front : (next new : List (Option ℕ)) (xs : List ℕ) (t : ℕ) (ys zs : List ℕ) → ((u : ℕ) → 1 ≤ times u xs → slice_get new u ≡ slice_get next u) → Leads next (xs ++ t ∷ ys)
    → Leads new (t ∷ zs) → Leads new (xs ++ t ∷ zs)
leads-front next new [] t ys zs same l m = m
leads-front next new (x ∷ xs) t ys zs same l m = (
  same x (omega (arith, times-here x xs)) ∙ l.0 ∙ ap (λ (o : Option ℕ). Some o) (first_front xs t ys zs),
  leads-front next new xs t ys zs (λ u h. same u (omega (arith, h, times-more x u xs))) l.1 m,
)

pub first-none : (xs : List ℕ) → first_of xs ≡ None → xs ≡ []
first-none [] e = refl
first-none (x ∷ xs) e = absurd (none-some x (sym e))

pub first-some : (xs : List ℕ) (u : ℕ) → first_of xs ≡ Some u → (ys : List ℕ) × (xs ≡ u ∷ ys)
first-some [] u e = absurd (none-some u e)
first-some (x ∷ xs) u e = (xs, ap (λ (k : ℕ). k ∷ xs) (same_Some x u e))

-- links lead one way
pub leads-same : (next : List (Option ℕ)) (t : ℕ) (xs ys : List ℕ) → Leads next (t ∷ xs) → Leads next (t ∷ ys) → xs ≡ ys
leads-same next t [] ys l m = sym (first-none ys (same_Some (first_of ys) None (sym m.0 ∙ l.0)))
leads-same next t (x ∷ xs) ys l m =
    let k = first-some ys x (same_Some (first_of ys) (Some x) (sym m.0 ∙ l.0)) in
    let n : Leads next (x ∷ k.0) = subst (Leads next) k.1 m.1 in
    ap (λ (r : List ℕ). x ∷ r) (leads-same next x xs k.0 l.1 n) ∙ sym k.1

inside_or : (next : List (Option ℕ)) (xs : List ℕ) (u : ℕ) → Leads next xs → 1 ≤ times u xs → (u < length next) ⊎ (length next ≤ u) → u < length next
inside_or next xs u l h (inl w) = w
inside_or next xs u l h (inr w) = absurd (omega (arith, h, leads-past next xs u l w))

-- what stands in a chain has a link
pub leads-inside : (next : List (Option ℕ)) (xs : List ℕ) (u : ℕ) → Leads next xs → 1 ≤ times u xs → u < length next
leads-inside next xs u l h = inside_or next xs u l h (cases_lt u (length next))

-- a ticket that stands there is not one that does not
pub differs : (u t : ℕ) (xs : List ℕ) → 1 ≤ times u xs → times t xs ≡ 0 → u ≡ t → ⊥
differs u t xs h z e = omega (arith, h, z, ap (λ (k : ℕ). times k xs) e)

-- one ticket more, behind x
pub leads-insert : (next new : List (Option ℕ)) (xs ys : List ℕ) (x u : ℕ) → AreOnce (xs ++ x ∷ ys) → Leads next (xs ++ x ∷ ys) → slice_get new x ≡ Some (Some u) → slice_get new u ≡ Some (first_of ys)
    → ((v : ℕ) → (v ≡ x → ⊥) → v < length next → slice_get new v ≡ slice_get next v) → Leads new (xs ++ x ∷ u ∷ ys)
leads-insert next new xs ys x u o l at kid rest =
    let inside = λ (v : ℕ) (h : 1 ≤ times v (xs ++ x ∷ ys)). leads-inside next (xs ++ x ∷ ys) v l h in
    let front = λ (v : ℕ) (h : 1 ≤ times v xs). rest v (differs v x xs h (once-front x xs ys o)) (inside v (omega (arith, h, times-split v x xs ys))) in
    let behind = λ (v : ℕ) (h : 1 ≤ times v ys). rest v (differs v x ys h (once-behind x xs ys o)) (inside v (omega (arith, h, times-split v x xs ys, times-more x v ys))) in
    leads-front next new xs x ys (u ∷ ys) front l (at, (kid, leads-keep next new ys behind (leads-suffix next xs (x ∷ ys) l).1))
