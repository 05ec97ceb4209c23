-- The chain after kids.
use Rattle.std.proofs.Common.{◌≡◌, ℕ, zero, suc, ◌+◌, ◌<◌, ◌≤◌, List, [], ◌∷◌, ◌++◌, length, Option, Some, Bool, true, false, refl, ap, ◌∙◌, sym, subst, ◌⊎◌, inl, inr, arith, length-append}
use Rattle.std.specs.Prelude.{slice_get}
use Rattle.std.proofs.Math.ListN.{length-set}
use Rattle.std.proofs.lemmas.Bool.{cases_lt}
use Rattle.std.proofs.lemmas.Bool.Decides.{nat_tests}
use Rattle.std.proofs.lemmas.Option.{slice_get_within, same_Some}
use Rattle.dps_branch.specs.declared.kind.StopKind.{StopKind}
use Rattle.dps_path.specs.Order.{before, is_prefix}
use Rattle.dps_path.proofs.Orders.{before-trans, before-longer, before-child}
use Rattle.dps_core.specs.declared.event.Mark.TheVariants.{Held, Posted}
use Rattle.dps_core.specs.declared.rows.Row.{Row}
use Rattle.dps_core.specs.Book.{row, is_open, kids, with_mark}
use Rattle.dps_core.specs.Pool.{times, tickets}
use Rattle.dps_core.proofs.Books.{book_of, IsKept, Grown, old_row, new_row, grown}
use Rattle.dps_core.proofs.Lists.{set-cases, set-at, append-left, length-kids, times-append, times-tickets_below, times-tickets_once, times-tickets_there, append-cases}
use Rattle.dps_book.specs.InOrder.{Leads, AreOnce, IsAhead, AreAscending, IsLine}
use Rattle.dps_book.proofs.Chains.{times-more, times-split, once-behind, leads-past, leads-inside, differs}
use Rattle.dps_book.proofs.Linking.{left_of}
use Rattle.dps_book.proofs.Lines.{IsAround, around, IsBackAt, mark_before, keep_ascending, insert_behind, behind-ticket, front-ticket, front-behind, ascending-suffix, all-of}

-- of two kids the one with the smaller number comes first
before-siblings : (p : List ℕ) (i j : ℕ) → i < j → before (p ++ i ∷ []) (p ++ j ∷ []) ≡ true
before-siblings [] i j l = grind (arith, nat_tests, l)
before-siblings (k ∷ p) i j l = grind (arith, nat_tests, before-siblings p i j l)

abbrev grown_rows : List Row → ℕ → List ℕ → ℕ → List Row
grown_rows rows t p n = with_mark rows t p Posted ++ kids p 0 n

-- an old ticket
old_back : (rows : List Row) (t w : ℕ) (p : List ℕ) (n u : ℕ) → slice_get rows t ≡ Some (row p (Held w)) → u < length rows → IsBackAt rows (grown_rows rows t p n) u
old_back rows t w p n u e l = λ r f o.
    let done = with_mark rows t p Posted in
    let here : slice_get done u ≡ Some r = sym (left_of done (kids p 0 n) u (omega (arith, l, length-set rows t (row p Posted)))) ∙ f in
    mark_before rows t p (Held w) Posted u r e (λ h. refl) o (set-cases rows t (row p Posted) u r here)

-- the row of a new ticket
pub record IsKid (rows : List Row) (p : List ℕ) (u : ℕ) (r : Row) : Type 0 where
  pub number : ℕ
  pub at : u ≡ length rows + number
  pub path : r.path ≡ p ++ number ∷ []

kid_of : (rows : List Row) (t : ℕ) (p : List ℕ) (u : ℕ) (r : Row) → length rows ≤ u → Grown (with_mark rows t p Posted) p u r → IsKid rows p u r
kid_of rows t p u r l (old_row e) = absurd (omega (arith, l, slice_get_within (with_mark rows t p Posted) u r e, length-set rows t (row p Posted)))
kid_of rows t p u r l (new_row j at is) = record { number = j; at = omega (arith, at, length-set rows t (row p Posted)); path = ap (λ (a : Row). a.path) is }

kid_at : (rows : List Row) (t : ℕ) (p : List ℕ) (n u : ℕ) (r : Row) → length rows ≤ u → slice_get (grown_rows rows t p n) u ≡ Some r → IsKid rows p u r
kid_at rows t p n u r l e = kid_of rows t p u r l (grown (with_mark rows t p Posted) p n u r e)

kid_kid : (rows : List Row) (t : ℕ) (p : List ℕ) (n u v : ℕ) → length rows ≤ u → u < v → IsAhead (grown_rows rows t p n) u v
kid_kid rows t p n u v l m = λ r q e f o a.
    let x = kid_at rows t p n u r l e in
    let y = kid_at rows t p n v q (omega (arith, l, m)) f in
    ap (λ (k : List ℕ). before k q.path) x.path ∙ ap (before (p ++ x.number ∷ [])) y.path ∙ before-siblings p x.number y.number (omega (arith, x.at, y.at, m))

front_kid : (rows : List Row) (t w : ℕ) (p : List ℕ) (n u v : ℕ) → slice_get rows t ≡ Some (row p (Held w)) → u < length rows → length rows ≤ v → IsAhead rows u t
    → IsAhead (grown_rows rows t p n) u v
front_kid rows t w p n u v e l m ahead = λ r q f g o a.
    let x = old_back rows t w p n u e l r f o in
    let y = kid_at rows t p n v q m g in
    let first : before x.0.path p ≡ true = ahead x.0 (row p (Held w)) x.1 e x.3 refl in
    ap (λ (k : List ℕ). before k q.path) x.2 ∙ ap (before x.0.path) y.path ∙ before-trans x.0.path p (p ++ y.number ∷ []) first (before-longer p y.number [])

kid_behind : (rows : List Row) (best : Option (ℕ × StopKind)) (halted : Bool) (t w : ℕ) (p : List ℕ) (n u v : ℕ) → IsKept (book_of rows best halted) → slice_get rows t ≡ Some (row p (Held w))
    → length rows ≤ u → v < length rows → (t ≡ v → ⊥) → IsAhead rows t v → IsAhead (grown_rows rows t p n) u v
kid_behind rows best halted t w p n u v kept e l m apart ahead = λ r q f g o a.
    let x = kid_at rows t p n u r l f in
    let y = old_back rows t w p n v e m q g a in
    let after : before p y.0.path ≡ true = ahead (row p (Held w)) y.0 e y.1 refl y.3 in
    let prefix : is_prefix p y.0.path ≡ false = kept.apart t v (row p (Held w)) y.0 e y.1 refl y.3 apart in
    ap (λ (k : List ℕ). before k q.path) x.path ∙ ap (before (p ++ x.number ∷ [])) y.2 ∙ before-child p y.0.path x.number after prefix

-- tickets from the first on
above_or : (first n v : ℕ) → 1 ≤ times v (tickets first n) → (v < first) ⊎ (first ≤ v) → first ≤ v
above_or first n v h (inl l) = absurd (omega (arith, h, times-tickets_below v first n l))
above_or first n v h (inr l) = l

above : (first n v : ℕ) → 1 ≤ times v (tickets first n) → first ≤ v
above first n v h = above_or first n v h (cases_lt v first)

kid_or : (rows : List Row) (u first n v : ℕ) (behind : List ℕ) → ((w : ℕ) → first ≤ w → IsAhead rows u w) → ((w : ℕ) → 1 ≤ times w behind → IsAhead rows u w)
    → 1 ≤ times v (tickets first n ++ behind) → (0 < times v behind) ⊎ (times v behind ≤ 0) → IsAhead rows u v
kid_or rows u first n v behind more last h (inl k) = last v (omega (arith, k))
kid_or rows u first n v behind more last h (inr z) = more v (above first n v (omega (arith, h, z, times-append v (tickets first n) behind)))

kids_ascend : (rows : List Row) (first n : ℕ) (behind : List ℕ) → ((u v : ℕ) → first ≤ u → u < v → IsAhead rows u v) → ((u v : ℕ) → first ≤ u → 1 ≤ times v behind → IsAhead rows u v)
    → AreAscending rows behind → AreAscending rows (tickets first n ++ behind)
kids_ascend rows first zero behind more last a = a
kids_ascend rows first (suc n) behind more last a = (
  all-of rows first (tickets (suc first) n ++ behind) (λ v h. kid_or rows first (suc first) n v behind (λ w l. more first w (omega arith) (omega (arith, l)))
      (λ w k. last first w (omega arith) k) h (cases_lt 0 (times v behind))),
  kids_ascend rows (suc first) n behind (λ u v l m. more u v (omega (arith, l)) m) (λ u v l h. last u v (omega (arith, l)) h) a,
)

-- the parent is closed
closed_ahead : (rows : List Row) (t : ℕ) (p : List ℕ) (v : ℕ) → slice_get rows t ≡ Some (row p Posted) → IsAhead rows t v
closed_ahead rows t p v e = λ r q f g o a. absurd (let clash : false ≡ true = ap (λ (x : Row). is_open x.mark) (same_Some (row p Posted) r (sym e ∙ f)) ∙ o in cc)

order_once : (front behind : List ℕ) (t first n u : ℕ) → times u (front ++ t ∷ behind) ≤ 1 → (first ≤ u → times u (front ++ t ∷ behind) ≡ 0) → (u < first) ⊎ (first ≤ u)
    → times u (front ++ t ∷ (tickets first n ++ behind)) ≤ 1
order_once front behind t first n u o past (inl l) =
    omega (
      arith,
      o,
      times-tickets_below u first n l,
      times-split u t front behind,
      times-split u t front (tickets first n ++ behind),
      times-append u (t ∷ []) behind,
      times-append u (t ∷ []) (tickets first n ++ behind),
      times-append u (tickets first n) behind,
    )
order_once front behind t first n u o past (inr l) =
    omega (
      arith,
      past l,
      times-tickets_once u first n,
      times-split u t front behind,
      times-split u t front (tickets first n ++ behind),
      times-append u (t ∷ []) behind,
      times-append u (t ∷ []) (tickets first n ++ behind),
      times-append u (tickets first n) behind,
    )

stands_in : (front behind : List ℕ) (t first n u : ℕ) → 1 ≤ times u (front ++ t ∷ behind) + times u (tickets first n) → 1 ≤ times u (front ++ t ∷ (tickets first n ++ behind))
stands_in front behind t first n u h =
    omega (
      arith,
      h,
      times-split u t front behind,
      times-split u t front (tickets first n ++ behind),
      times-append u (t ∷ []) behind,
      times-append u (t ∷ []) (tickets first n ++ behind),
      times-append u (tickets first n) behind,
    )

grown_there : (rows : List Row) (next : List (Option ℕ)) (t w : ℕ) (p : List ℕ) (n u : ℕ) (r : Row) (k : IsAround rows next t) → slice_get rows t ≡ Some (row p (Held w)) → is_open r.mark ≡ true
    → (slice_get (with_mark rows t p Posted) u ≡ Some r) ⊎ ((j : ℕ) × (u ≡ length (with_mark rows t p Posted) + j) × (slice_get (kids p 0 n) j ≡ Some r))
    → 1 ≤ times u (k.front ++ t ∷ k.behind) + times u (tickets (length rows) n)
grown_there rows next t w p n u r k e o (inl h) =
    let x = mark_before rows t p (Held w) Posted u r e (λ h. refl) o (set-cases rows t (row p Posted) u r h) in
    omega (arith, k.there u x.0 x.1 x.3)
grown_there rows next t w p n u r k e o (inr h) =
    let at : u ≡ length rows + h.0 = omega (arith, h.1, length-set rows t (row p Posted)) in
    let few : h.0 < n = omega (arith, slice_get_within (kids p 0 n) h.0 r h.2, length-kids p 0 n) in
    omega (arith, times-tickets_there u (length rows) n (omega (arith, at)) (omega (arith, at, few)))

-- kids come behind their parent
pub line-kids : (rows : List Row) (best : Option (ℕ × StopKind)) (halted : Bool) (next new : List (Option ℕ)) (t w n : ℕ) (p : List ℕ) → IsKept (book_of rows best halted)
    → slice_get rows t ≡ Some (row p (Held w)) → length new ≡ length next + n
    → ((front behind : List ℕ) → Leads next (front ++ t ∷ behind) → AreOnce (front ++ t ∷ behind) → Leads new (front ++ t ∷ (tickets (length next) n ++ behind))) → IsLine rows next
    → IsLine (with_mark rows t p Posted ++ kids p 0 n) new
line-kids rows best halted next new t w n p kept e size links line =
    let k = around rows next t (row p (Held w)) e refl line in
    let all = grown_rows rows t p n in
    let first = length rows in
    let old = k.front ++ t ∷ k.behind in
    let inside = λ (u : ℕ) (h : 1 ≤ times u old). let l : u < length rows = omega (arith, leads-inside next old u k.leads h, line.each) in l in
    let in_behind = λ (u : ℕ) (h : 1 ≤ times u k.behind). inside u (omega (arith, h, times-split u t k.front k.behind, times-more t u k.behind)) in
    let in_front = λ (u : ℕ) (h : 1 ≤ times u k.front). inside u (omega (arith, h, times-split u t k.front k.behind)) in
    let kept_order : AreAscending all old = keep_ascending rows all old (λ u h. old_back rows t w p n u e (inside u h)) k.ascending in
    let apart = λ (v : ℕ) (h : 1 ≤ times v k.behind) (z : t ≡ v). differs v t k.behind h (once-behind t k.front k.behind k.once) (sym z) in
    let kid_last = λ (u v : ℕ) (l : first ≤ u) (h : 1 ≤ times v k.behind).
    kid_behind rows best halted t w p n u v kept e l (in_behind v h) (apart v h) (behind-ticket rows k.front k.behind t v k.ascending h) in
    let tail : AreAscending all (tickets first n ++ k.behind) =
    kids_ascend all first n k.behind (λ u v l m. kid_kid rows t p n u v l m) kid_last (ascending-suffix all k.front (t ∷ k.behind) kept_order).1 in
    let parent : slice_get all t ≡ Some (row p Posted) = append-left (with_mark rows t p Posted) (kids p 0 n) t (row p Posted) (set-at rows t (row p (Held w)) (row p Posted) e) in
    let around_kids : AreAscending all (t ∷ (tickets first n ++ k.behind)) = (all-of all t (tickets first n ++ k.behind) (λ v h. closed_ahead all t p v parent), tail) in
    let from_front = λ (u v : ℕ) (h : 1 ≤ times u k.front) (m : 1 ≤ times v (tickets first n ++ k.behind)).
    kid_or all u first n v k.behind (λ x l. front_kid rows t w p n u x e (in_front u h) l (front-ticket rows k.front k.behind t u k.ascending h))
    (λ x g. front-behind all k.front k.behind t u x kept_order h g) m (cases_lt 0 (times v k.behind)) in
    record {
      each = size ∙ (let s : length next + n ≡ length all = omega (arith, line.each, length-append (with_mark rows t p Posted) (kids p 0 n), length-kids p 0 n, length-set rows t (row p Posted)) in s);
      order = k.front ++ t ∷ (tickets first n ++ k.behind);
      leads = subst (λ (x : ℕ). Leads new (k.front ++ t ∷ (tickets x n ++ k.behind))) line.each (links k.front k.behind k.leads k.once);
      once = λ u. order_once k.front k.behind t first n u (k.once u) (λ l. leads-past next old u k.leads (omega (arith, l, line.each))) (cases_lt u first);
      ascending = insert_behind all k.front k.behind (tickets first n ++ k.behind) t kept_order around_kids from_front;
      there = λ u r f o. stands_in k.front k.behind t first n u (grown_there rows next t w p n u r k e o (append-cases (with_mark rows t p Posted) (kids p 0 n) u r f));
    }
