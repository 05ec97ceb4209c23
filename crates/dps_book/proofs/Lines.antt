-- The chain of a book, through each of its calls.
use Rattle.std.proofs.Common.{◌≡◌, ℕ, zero, suc, ◌<◌, ◌≤◌, List, [], ◌∷◌, ◌++◌, length, Option, Some, None, true, refl, ap, ◌∙◌, sym, subst, ◌⊎◌, inl, inr, arith}
use Rattle.std.specs.Prelude.{slice_get}
use Rattle.std.proofs.Math.ListN.{length-set}
use Rattle.std.proofs.lemmas.Bool.{cases_eq, cases_lt}
use Rattle.std.proofs.lemmas.Option.{none-some}
use Rattle.dps_path.specs.Order.{before}
use Rattle.dps_core.specs.declared.event.Mark.{Mark}
use Rattle.dps_core.specs.declared.event.Mark.TheVariants.{Open}
use Rattle.dps_core.specs.declared.rows.Row.{Row}
use Rattle.dps_core.specs.Book.{row, is_open, with_mark}
use Rattle.dps_core.specs.Pool.{times}
use Rattle.dps_core.proofs.Lists.{set-cases, times-append}
use Rattle.dps_book.specs.InOrder.{Leads, AreOnce, IsAhead, IsAheadOfAll, AreAscending, IsLine}
use Rattle.dps_book.proofs.Chains.{times-here, times-there, times-more, times-split, split-at}

ahead_or : (rows : List Row) (t u x : ℕ) (xs : List ℕ) → IsAhead rows t x → (1 ≤ times u xs → IsAhead rows t u) → 1 ≤ times u (x ∷ xs) → (x ≡ u) ⊎ (x ≡ u → ⊥) → IsAhead rows t u
ahead_or rows t u x xs a more h (inl e) = subst (IsAhead rows t) e a
ahead_or rows t u x xs a more h (inr n) = more (omega (arith, h, times-there x u xs n))

ahead-of : (rows : List Row) (t u : ℕ) (xs : List ℕ) → IsAheadOfAll rows t xs → 1 ≤ times u xs → IsAhead rows t u
ahead-of rows t u [] a h = absurd (omega (arith, h))
ahead-of rows t u (x ∷ xs) a h = ahead_or rows t u x xs a.0 (ahead-of rows t u xs a.1) h (cases_eq x u)

pub ascending-suffix : (rows : List Row) (xs ys : List ℕ) → AreAscending rows (xs ++ ys) → AreAscending rows ys
ascending-suffix rows [] ys a = a
ascending-suffix rows (x ∷ xs) ys a = ascending-suffix rows xs ys a.1

-- what stands behind t is after it
pub behind-ticket : (rows : List Row) (xs ys : List ℕ) (t u : ℕ) → AreAscending rows (xs ++ t ∷ ys) → 1 ≤ times u ys → IsAhead rows t u
behind-ticket rows xs ys t u a h = ahead-of rows t u ys (ascending-suffix rows xs (t ∷ ys) a).0 h

front_or : (rows : List Row) (xs ys : List ℕ) (t u x : ℕ) → IsAheadOfAll rows x (xs ++ t ∷ ys) → (1 ≤ times u xs → IsAhead rows u t) → 1 ≤ times u (x ∷ xs) → (x ≡ u) ⊎ (x ≡ u → ⊥)
    → IsAhead rows u t
front_or rows xs ys t u x a more h (inl e) =
    subst (λ (k : ℕ). IsAhead rows k t) e (ahead-of rows x t (xs ++ t ∷ ys) a (omega (arith, times-split t t xs ys, times-here t ys)))
front_or rows xs ys t u x a more h (inr n) = more (omega (arith, h, times-there x u xs n))

-- what stands before t is ahead of it
pub front-ticket : (rows : List Row) (xs ys : List ℕ) (t u : ℕ) → AreAscending rows (xs ++ t ∷ ys) → 1 ≤ times u xs → IsAhead rows u t
front-ticket rows [] ys t u a h = absurd (omega (arith, h))
front-ticket rows (x ∷ xs) ys t u a h = front_or rows xs ys t u x a.0 (front-ticket rows xs ys t u a.1) h (cases_eq x u)

-- an open row of the new ones was open before, at the same ticket and with the same path
abbrev pub IsBackAt : List Row → List Row → ℕ → Type 0
IsBackAt old new u = (r : Row) → slice_get new u ≡ Some r → is_open r.mark ≡ true → (q : Row) × (slice_get old u ≡ Some q) × (r.path ≡ q.path) × (is_open q.mark ≡ true)

keep_ahead : (old new : List Row) (t u : ℕ) → IsBackAt old new t → IsBackAt old new u → IsAhead old t u → IsAhead new t u
keep_ahead old new t u back there a = λ r q e f o p.
    let x = back r e o in
    let y = there q f p in
    ap (λ (k : List ℕ). before k q.path) x.2 ∙ ap (before x.0.path) y.2 ∙ a x.0 y.0 x.1 y.1 x.3 y.3

keep_all : (old new : List Row) (t : ℕ) (xs : List ℕ) → IsBackAt old new t → ((u : ℕ) → 1 ≤ times u xs → IsBackAt old new u) → IsAheadOfAll old t xs → IsAheadOfAll new t xs
keep_all old new t [] back there a = tt
keep_all old new t (x ∷ xs) back there a = (
  keep_ahead old new t x back (there x (omega (arith, times-here x xs))) a.0,
  keep_all old new t xs back (λ u h. there u (omega (arith, h, times-more x u xs))) a.1,
)

pub keep_ascending : (old new : List Row) (xs : List ℕ) → ((u : ℕ) → 1 ≤ times u xs → IsBackAt old new u) → AreAscending old xs → AreAscending new xs
keep_ascending old new [] back a = tt
keep_ascending old new (x ∷ xs) back a =
    let rest = λ (u : ℕ) (h : 1 ≤ times u xs). back u (omega (arith, h, times-more x u xs)) in
    (keep_all old new x xs (back x (omega (arith, times-here x xs))) rest a.0, keep_ascending old new xs rest a.1)

once_root : (t : ℕ) → (0 ≡ t) ⊎ (0 ≡ t → ⊥) → times t (0 ∷ []) ≤ 1
once_root t (inl e) = omega (arith, times-here 0 [], ap (λ (k : ℕ). times k (0 ∷ [])) e)
once_root t (inr n) = omega (arith, times-there 0 t [] n)

root_there : (t : ℕ) (r : Row) → slice_get (row [] Open ∷ []) t ≡ Some r → 1 ≤ times t (0 ∷ [])
root_there zero r e = omega (arith, times-here 0 [])
root_there (suc t) r e = absurd (none-some r e)

pub line-first : IsLine (row [] Open ∷ []) (None ∷ [])
line-first = record {
  each = refl;
  order = 0 ∷ [];
  leads = (refl, tt);
  once = λ t. once_root t (cases_eq 0 t);
  ascending = (tt, tt);
  there = λ t r e o. root_there t r e;
}

pub line-new : (rows : List Row) (next : List (Option ℕ)) → rows ≡ row [] Open ∷ [] → next ≡ None ∷ [] → IsLine rows next
line-new rows next e f = subst (IsLine rows) (sym f) (subst (λ (x : List Row). IsLine x (None ∷ [])) (sym e) line-first)

-- rows are closed or claimed, and nothing else happens
pub line-later : (old new : List Row) (next : List (Option ℕ)) → ((u : ℕ) → IsBackAt old new u) → length new ≡ length old → IsLine old next → IsLine new next
line-later old new next back size k = record {
  each = k.each ∙ sym size;
  order = k.order;
  leads = k.leads;
  once = k.once;
  ascending = keep_ascending old new k.order (λ u h. back u) k.ascending;
  there = λ t r e o. let x = back t r e o in k.there t x.0 x.1 x.3;
}

pub mark_before : (rows : List Row) (t : ℕ) (p : List ℕ) (m n : Mark) (u : ℕ) (r : Row) → slice_get rows t ≡ Some (row p m) → (is_open n ≡ true → is_open m ≡ true) → is_open r.mark ≡ true
    → ((u ≡ t) × (r ≡ row p n)) ⊎ ((u ≡ t → ⊥) × (slice_get rows u ≡ Some r)) → (q : Row) × (slice_get rows u ≡ Some q) × (r.path ≡ q.path) × (is_open q.mark ≡ true)
mark_before rows t p m n u r e opened o (inl h) =
    (row p m, ap (slice_get rows) h.0 ∙ e, ap (λ (a : Row). a.path) h.1, opened (sym (ap (λ (a : Row). is_open a.mark) h.1) ∙ o))
mark_before rows t p m n u r e opened o (inr h) = (r, h.1, refl, o)

-- one row has another mark
pub line-mark : (rows : List Row) (next : List (Option ℕ)) (t : ℕ) (p : List ℕ) (m n : Mark) → slice_get rows t ≡ Some (row p m) → (is_open n ≡ true → is_open m ≡ true) → IsLine rows next
    → IsLine (with_mark rows t p n) next
line-mark rows next t p m n e opened k =
    line-later rows (with_mark rows t p n) next (λ u r f o. mark_before rows t p m n u r e opened o (set-cases rows t (row p n) u r f)) (length-set rows t (row p n)) k

-- the chain as it stands around an open ticket
pub record IsAround (rows : List Row) (next : List (Option ℕ)) (t : ℕ) : Type 0 where
  pub front : List ℕ
  pub behind : List ℕ
  pub leads : Leads next (front ++ t ∷ behind)
  pub once : AreOnce (front ++ t ∷ behind)
  pub ascending : AreAscending rows (front ++ t ∷ behind)
  pub there : (u : ℕ) (r : Row) → slice_get rows u ≡ Some r → is_open r.mark ≡ true → 1 ≤ times u (front ++ t ∷ behind)

pub around : (rows : List Row) (next : List (Option ℕ)) (t : ℕ) (r : Row) → slice_get rows t ≡ Some r → is_open r.mark ≡ true → IsLine rows next → IsAround rows next t
around rows next t r e o k =
    let s = split-at t k.order (k.there t r e o) in
    record {
      front = s.front;
      behind = s.behind;
      leads = subst (Leads next) s.is k.leads;
      once = subst AreOnce s.is k.once;
      ascending = subst (AreAscending rows) s.is k.ascending;
      there = λ u q f h. subst (λ (xs : List ℕ). 1 ≤ times u xs) s.is (k.there u q f h);
    }

pub all-of : (rows : List Row) (t : ℕ) (xs : List ℕ) → ((u : ℕ) → 1 ≤ times u xs → IsAhead rows t u) → IsAheadOfAll rows t xs
all-of rows t [] h = tt
all-of rows t (x ∷ xs) h = (h x (omega (arith, times-here x xs)), all-of rows t xs (λ u k. h u (omega (arith, k, times-more x u xs))))

among : (rows : List Row) (x u t : ℕ) (xs ys zs : List ℕ) → IsAheadOfAll rows x (xs ++ t ∷ ys) → ((v : ℕ) → 1 ≤ times v zs → IsAhead rows x v) → 1 ≤ times u (xs ++ t ∷ zs)
    → (0 < times u zs) ⊎ (times u zs ≤ 0) → IsAhead rows x u
among rows x u t xs ys zs a more h (inl k) = more u (omega (arith, k))
among rows x u t xs ys zs a more h (inr z) =
    ahead-of rows x u (xs ++ t ∷ ys) a (omega (arith, h, z, times-split u t xs ys, times-split u t xs zs, times-append u (t ∷ []) ys, times-append u (t ∷ []) zs))

-- other tickets stand behind t
pub insert_behind : (rows : List Row) (xs ys zs : List ℕ) (t : ℕ) → AreAscending rows (xs ++ t ∷ ys) → AreAscending rows (t ∷ zs) → ((u v : ℕ) → 1 ≤ times u xs → 1 ≤ times v zs → IsAhead rows u v)
    → AreAscending rows (xs ++ t ∷ zs)
insert_behind rows [] ys zs t a b h = b
insert_behind rows (x ∷ xs) ys zs t a b h = (
  all-of rows x (xs ++ t ∷ zs) (λ u k. among rows x u t xs ys zs a.0 (λ v m. h x v (omega (arith, times-here x xs)) m) k (cases_lt 0 (times u zs))),
  insert_behind rows xs ys zs t a.1 b (λ u v k m. h u v (omega (arith, k, times-more x u xs)) m),
)

front_behind_or : (rows : List Row) (xs ys : List ℕ) (t u v x : ℕ) → IsAheadOfAll rows x (xs ++ t ∷ ys) → (1 ≤ times u xs → IsAhead rows u v) → 1 ≤ times u (x ∷ xs) → 1 ≤ times v ys
    → (x ≡ u) ⊎ (x ≡ u → ⊥) → IsAhead rows u v
front_behind_or rows xs ys t u v x a more h m (inl e) =
    subst (λ (k : ℕ). IsAhead rows k v) e (ahead-of rows x v (xs ++ t ∷ ys) a (omega (arith, m, times-split v t xs ys, times-more t v ys)))
front_behind_or rows xs ys t u v x a more h m (inr n) = more (omega (arith, h, times-there x u xs n))

pub front-behind : (rows : List Row) (xs ys : List ℕ) (t u v : ℕ) → AreAscending rows (xs ++ t ∷ ys) → 1 ≤ times u xs → 1 ≤ times v ys → IsAhead rows u v
front-behind rows [] ys t u v a h m = absurd (omega (arith, h))
front-behind rows (x ∷ xs) ys t u v a h m = front_behind_or rows xs ys t u v x a.0 (λ k. front-behind rows xs ys t u v a.1 k m) h m (cases_eq x u)
