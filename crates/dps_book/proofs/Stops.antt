-- The chain after a stop, and what the stop drops.
use Rattle.std.proofs.Common.{◌≡◌, ℕ, zero, suc, ◌<◌, ◌≤◌, List, [], ◌∷◌, ◌++◌, map, Option, Some, None, Bool, true, false, cond, refl, ap, ◌∙◌, sym, subst, ◌⊎◌, inl, inr, arith}
use Rattle.std.specs.Prelude.{slice_get, option_map}
use Rattle.std.proofs.Math.ListN.{length-set}
use Rattle.std.proofs.lemmas.List.{length-map}
use Rattle.std.proofs.lemmas.Bool.{cases_eq, cases_lt}
use Rattle.std.proofs.lemmas.Option.{same_Some, none-some, slice_get-map}
use Rattle.dps_path.specs.Order.{before}
use Rattle.dps_path.proofs.Orders.{before-self, before-trans}
use Rattle.dps_core.specs.declared.event.Mark.{Mark}
use Rattle.dps_core.specs.declared.event.Mark.TheVariants.{Open, Held, Posted, Dropped, DroppedHeld}
use Rattle.dps_core.specs.declared.rows.Row.{Row}
use Rattle.dps_core.specs.Book.{row, is_open, drop_mark, dropped_after, with_mark}
use Rattle.dps_core.specs.Pool.{times}
use Rattle.dps_core.proofs.Books.{stopped, left_open}
use Rattle.dps_core.proofs.Lists.{set-cases, map-at, times-append}
use Rattle.dps_book.specs.InOrder.{AreAscending, IsLine, dropped_at, dropped_all, IsCut}
use Rattle.dps_book.proofs.Chains.{times-there, times-more, times-split, leads-suffix, leads-front, leads-same}
use Rattle.dps_book.proofs.Cutting.{dropped-in, dropped-out}
use Rattle.dps_book.proofs.Lines.{IsAround, around, IsBackAt, keep_ascending, insert_behind, behind-ticket, front-ticket}

pub same-lists : {A : Type 0} (xs ys : List A) → ((u : ℕ) → slice_get xs u ≡ slice_get ys u) → xs ≡ ys
same-lists [] [] h = refl
same-lists [] (y ∷ ys) h = absurd (none-some y (h 0))
same-lists (x ∷ xs) [] h = absurd (none-some x (sym (h 0)))
same-lists (x ∷ xs) (y ∷ ys) h = ap (λ (a : _). a ∷ xs) (same_Some x y (h 0)) ∙ ap (λ (r : List _). y ∷ r) (same-lists xs ys (λ u. h (suc u)))

closed_stays : (m : Mark) → is_open m ≡ false → drop_mark m ≡ m
closed_stays Open e = cc
closed_stays (Held w) e = cc
closed_stays Posted e = refl
closed_stays Dropped e = refl
closed_stays (DroppedHeld w) e = refl

dropped_row : (p : List ℕ) (r : Row) (b : Bool) → before p r.path ≡ b → dropped_after p r ≡ row r.path (cond b (drop_mark r.mark) r.mark)
dropped_row p r b e = ap (λ (x : Bool). row r.path (cond x (drop_mark r.mark) r.mark)) e

closed_row : (p : List ℕ) (r : Row) (b : Bool) → is_open r.mark ≡ false → row r.path (cond b (drop_mark r.mark) r.mark) ≡ r
closed_row p r true e = ap (row r.path) (closed_stays r.mark e)
closed_row p r false e = refl

-- what is before another path is not after it
not_after : (p q : List ℕ) (b : Bool) → before q p ≡ true → before p q ≡ b → b ≡ false
not_after p q true e f = let g : before p p ≡ true = before-trans p q p f e in let h : before p p ≡ false = before-self p in cc
not_after p q false e f = refl

-- an open row after the post stood open before, at another ticket
open_done : (rows : List Row) (t : ℕ) (p : List ℕ) (u : ℕ) (r : Row) → is_open r.mark ≡ true → ((u ≡ t) × (r ≡ row p Posted)) ⊎ ((u ≡ t → ⊥) × (slice_get rows u ≡ Some r))
    → (u ≡ t → ⊥) × (slice_get rows u ≡ Some r)
open_done rows t p u r o (inl h) = absurd (let clash : false ≡ true = sym (ap (λ (a : Row). is_open a.mark) h.1) ∙ o in cc)
open_done rows t p u r o (inr h) = h

abbrev done_of : List Row → ℕ → List ℕ → List Row
done_of rows t p = with_mark rows t p Posted

in_front : (t u : ℕ) (front behind : List ℕ) → 1 ≤ times u (front ++ t ∷ behind) → (u ≡ t → ⊥) → times u behind ≡ 0 → (t ≡ u) ⊎ (t ≡ u → ⊥) → 1 ≤ times u front
in_front t u front behind h n z (inl e) = absurd (n (sym e))
in_front t u front behind h n z (inr m) = omega (arith, h, z, times-split u t front behind, times-there t u behind m)

-- a row that is dropped one by one is dropped by its path
drops_row : (rows : List Row) (next : List (Option ℕ)) (t w : ℕ) (p : List ℕ) (u : ℕ) (r : Row) (b : Bool) (k : IsAround rows next t) → slice_get rows t ≡ Some (row p (Held w))
    → slice_get (done_of rows t p) u ≡ Some r → is_open r.mark ≡ b → (0 < times u k.behind) ⊎ (times u k.behind ≤ 0)
    → slice_get (dropped_all (done_of rows t p) k.behind) u ≡ Some (dropped_after p r)
drops_row rows next t w p u r true k e f o (inl h) =
    let x = open_done rows t p u r o (set-cases rows t (row p Posted) u r f) in
    let one : times u k.behind ≤ 1 = omega (arith, k.once u, times-split u t k.front k.behind, times-more t u k.behind) in
    let after : before p r.path ≡ true = behind-ticket rows k.front k.behind t u k.ascending (omega (arith, h)) (row p (Held w)) r e x.1 refl o in
    dropped-in (done_of rows t p) k.behind u r (omega (arith, h)) one f ∙ ap (λ (a : Row). Some a) (sym (dropped_row p r true after))
drops_row rows next t w p u r true k e f o (inr z) =
    let x = open_done rows t p u r o (set-cases rows t (row p Posted) u r f) in
    let none : times u k.behind ≡ 0 = omega (arith, z) in
    let stands : 1 ≤ times u k.front = in_front t u k.front k.behind (k.there u r x.1 o) x.0 none (cases_eq t u) in
    let ahead : before r.path p ≡ true = front-ticket rows k.front k.behind t u k.ascending stands r (row p (Held w)) x.1 e o refl in
    dropped-out (done_of rows t p) k.behind u none ∙ f ∙ ap (λ (a : Row). Some a) (sym (dropped_row p r false (not_after p r.path (before p r.path) ahead refl)))
drops_row rows next t w p u r false k e f o (inl h) =
    let one : times u k.behind ≤ 1 = omega (arith, k.once u, times-split u t k.front k.behind, times-more t u k.behind) in
    dropped-in (done_of rows t p) k.behind u r (omega (arith, h)) one f
    ∙ ap (λ (m : Mark). Some (row r.path m)) (closed_stays r.mark o)
    ∙ ap (λ (a : Row). Some a) (sym (dropped_row p r (before p r.path) refl ∙ closed_row p r (before p r.path) o))
drops_row rows next t w p u r false k e f o (inr z) =
    dropped-out (done_of rows t p) k.behind u (omega (arith, z)) ∙ f ∙ ap (λ (a : Row). Some a) (sym (dropped_row p r (before p r.path) refl ∙ closed_row p r (before p r.path) o))

none_stays : (rows : List Row) (t u : ℕ) → slice_get rows u ≡ None → slice_get (dropped_at rows t) u ≡ None
none_stays [] t u e = e
none_stays (x ∷ rows) t zero e = absurd (none-some x (sym e))
none_stays (x ∷ rows) zero (suc u) e = e
none_stays (x ∷ rows) (suc t) (suc u) e = none_stays rows t u e

dropped_none : (rows : List Row) (ts : List ℕ) (u : ℕ) → slice_get rows u ≡ None → slice_get (dropped_all rows ts) u ≡ None
dropped_none rows [] u e = e
dropped_none rows (t ∷ ts) u e = dropped_none (dropped_at rows t) ts u (none_stays rows t u e)

drops_at : (rows : List Row) (next : List (Option ℕ)) (t w : ℕ) (p : List ℕ) (u : ℕ) (found : Option Row) (k : IsAround rows next t) → slice_get rows t ≡ Some (row p (Held w))
    → slice_get (done_of rows t p) u ≡ found → slice_get (dropped_all (done_of rows t p) k.behind) u ≡ slice_get (map (dropped_after p) (done_of rows t p)) u
drops_at rows next t w p u (Some r) k e f =
    drops_row rows next t w p u r (is_open r.mark) k e f refl (cases_lt 0 (times u k.behind)) ∙ sym (map-at (dropped_after p) (done_of rows t p) u r f)
drops_at rows next t w p u None k e f =
    dropped_none (done_of rows t p) k.behind u f ∙ sym (slice_get-map (dropped_after p) (done_of rows t p) u ∙ ap (λ (o : Option Row). option_map (dropped_after p) o) f)

-- what is dropped one by one is what the path drops
pub drops-all : (rows : List Row) (next : List (Option ℕ)) (t w : ℕ) (p : List ℕ) (k : IsAround rows next t) → slice_get rows t ≡ Some (row p (Held w))
    → dropped_all (with_mark rows t p Posted) k.behind ≡ map (dropped_after p) (with_mark rows t p Posted)
drops-all rows next t w p k e =
    same-lists (dropped_all (done_of rows t p) k.behind) (map (dropped_after p) (done_of rows t p)) (λ u. drops_at rows next t w p u (slice_get (done_of rows t p) u) k e refl)

-- the cut is behind the ticket
pub cut-rest : (rows done new : List Row) (next cut : List (Option ℕ)) (t count : ℕ) (k : IsAround rows next t) (c : IsCut done next t new cut count) → c.rest ≡ k.behind
cut-rest rows done new next cut t count k c = leads-same next t c.rest k.behind c.leads (leads-suffix next k.front (t ∷ k.behind) k.leads)

pub cut-rows : (rows new : List Row) (next cut : List (Option ℕ)) (t w count : ℕ) (p : List ℕ) (k : IsAround rows next t) → slice_get rows t ≡ Some (row p (Held w))
    → IsCut (with_mark rows t p Posted) next t new cut count → new ≡ map (dropped_after p) (with_mark rows t p Posted)
cut-rows rows new next cut t w count p k e c =
    c.drops ∙ ap (dropped_all (done_of rows t p)) (cut-rest rows (done_of rows t p) new next cut t count k c) ∙ drops-all rows next t w p k e

left_back : (rows : List Row) (t : ℕ) (p : List ℕ) (u : ℕ) → IsBackAt rows (map (dropped_after p) (with_mark rows t p Posted)) u
left_back rows t p u = λ r e o. let x = left_open rows t p u r (stopped rows t p u r e) o in (x.0, x.2, x.3, x.5)

left_there :
    (rows : List Row) (next : List (Option ℕ)) (t w : ℕ) (p : List ℕ) (u : ℕ) (x : Row) (k : IsAround rows next t)
    → slice_get rows t ≡ Some (row p (Held w)) → (u ≡ t → ⊥) → slice_get rows u ≡ Some x
    → is_open x.mark ≡ true → before p x.path ≡ false → (0 < times u k.behind) ⊎ (times u k.behind ≤ 0) → 1 ≤ times u k.front
left_there rows next t w p u x k e n f o b (inl h) =
    let after : before p x.path ≡ true = behind-ticket rows k.front k.behind t u k.ascending (omega (arith, h)) (row p (Held w)) x e f refl o in
    absurd (let clash : false ≡ true = sym b ∙ after in cc)
left_there rows next t w p u x k e n f o b (inr z) = in_front t u k.front k.behind (k.there u x f o) n (omega (arith, z)) (cases_eq t u)

-- after a stop the chain ends with it
pub line-stop : (rows new : List Row) (next cut : List (Option ℕ)) (t w count : ℕ) (p : List ℕ) → slice_get rows t ≡ Some (row p (Held w)) → IsCut (with_mark rows t p Posted) next t new cut count
    → new ≡ map (dropped_after p) (with_mark rows t p Posted) → IsLine rows next → IsLine new cut
line-stop rows new next cut t w count p e c is line =
    let k = around rows next t (row p (Held w)) e refl line in
    let rest : c.rest ≡ k.behind = cut-rest rows (done_of rows t p) new next cut t count k c in
    let apart =
    λ (u : ℕ) (h : 1 ≤ times u k.front). let z : times u (t ∷ c.rest) ≡ 0 = ap (λ (r : List ℕ). times u (t ∷ r)) rest
    ∙ (let s : times u (t ∷ k.behind) ≡ 0 = omega (arith, h, k.once u, times-split u t k.front k.behind) in s) in z in
    let short : AreAscending rows (k.front ++ t ∷ []) = insert_behind rows k.front k.behind [] t k.ascending (tt, tt) (λ u v h m. absurd (omega (arith, m))) in
    subst (λ (r : List Row). IsLine r cut) (sym is) (record {
      each = c.each ∙ line.each ∙ sym (length-map (done_of rows t p) (dropped_after p) ∙ length-set rows t (row p Posted));
      order = k.front ++ t ∷ [];
      leads = leads-front next cut k.front t k.behind [] (λ u h. c.others u (apart u h)) k.leads (c.last, tt);
      once = λ u. omega (arith, k.once u, times-split u t k.front k.behind, times-split u t k.front [], times-append u (t ∷ []) k.behind);
      ascending = keep_ascending rows (map (dropped_after p) (done_of rows t p)) (k.front ++ t ∷ []) (λ u h. left_back rows t p u) short;
      there = λ u r f o.
          let x = left_open rows t p u r (stopped rows t p u r f) o in
          let h = left_there rows next t w p u x.0 k e x.1 x.2 x.5 x.4 (cases_lt 0 (times u k.behind)) in
          omega (arith, h, times-split u t k.front []);
    })
