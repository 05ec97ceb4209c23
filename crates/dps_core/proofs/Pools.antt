-- What each step of the pool keeps, and what holds after every run.
use Rattle.std.proofs.Common.{◌≡◌, ℕ, zero, suc, ◌+◌, ◌<◌, ◌≤◌, List, [], ◌∷◌, ◌++◌, length, map, Option, Some}
use Rattle.std.proofs.Common.{None, Bool, true, false, cond, refl, ap, ◌∙◌, sym, subst, ◌⊎◌, inl, inr, arith, length-append}
use Rattle.std.specs.Prelude.{slice_get, slice_set, replicate}
use Rattle.std.proofs.Math.ListN.{length-set}
use Rattle.std.proofs.lemmas.List.{length-map}
use Rattle.std.proofs.lemmas.Option.{same_Some, none-some, slice_get_within}
use Rattle.dps_branch.specs.declared.kind.StopKind.{StopKind}
use Rattle.dps_path.specs.Order.{before, is_prefix}
use Rattle.dps_core.specs.declared.event.Mark.{Mark}
use Rattle.dps_core.specs.declared.event.Mark.TheVariants.{Open, Held, Posted, Dropped, DroppedHeld}
use Rattle.dps_core.specs.declared.event.Event as event_type
use Rattle.dps_core.specs.declared.event.Event.TheVariants as event
use Rattle.dps_core.specs.declared.event.Claim as claim_type
use Rattle.dps_core.specs.declared.event.Posted as posted_type
use Rattle.dps_core.specs.declared.event.Post as post_type
use Rattle.dps_core.specs.declared.event.Post.TheVariants as result
use Rattle.dps_core.specs.declared.event.Claim.TheVariants as claim
use Rattle.dps_core.specs.declared.event.Posted.TheVariants as answer
use Rattle.dps_core.specs.declared.rows.Row.{Row}
use Rattle.dps_core.specs.Book.{row, Book, first_book, halted_book, is_open, is_dropped, is_claimed, drop_mark, dropped_after, kids, with_mark, Claims, Posts}
use Rattle.dps_core.specs.Pool.{Pool, start, times, times_in, without, tickets, IsAtHand, hand_after_claim, hand_after_post, Step, Run}
use Rattle.dps_core.specs.Facts.{places, IsBest, IsAfterBest, IsLive, IsSound}
use Rattle.dps_core.proofs.Lists.{set-cases, append-cases, length-kids, times-append, times-without, times-without_le, times-set}
use Rattle.dps_core.proofs.Lists.{times-tickets_below, times-tickets_past, times-tickets_there, times-tickets_once, times-one, times-nobody, times-other, without-other}
use Rattle.dps_core.proofs.Books.{IsKept, IsLater, book_of, later-mark, claim-keeps, dropped-keeps, halt-keeps, kids-keeps, stop-keeps, stopped, left_open}

pub record IsFine (s : Pool) : Type 0 where
  pub kept : IsKept s.book
  pub bound : (t : ℕ) → length s.book.rows ≤ t → places s t ≡ 0
  pub once : (t : ℕ) → places s t ≤ 1
  pub there : (t : ℕ) (r : Row) → slice_get s.book.rows t ≡ Some r → is_open r.mark ≡ true → 1 ≤ places s t

abbrev pub pool_of : Book → List (List ℕ) → List (List ℕ) → Pool
pool_of b decks hands = record { book = b; decks = decks; hands = hands }

-- the same book, and each ticket as often as before
fine-moved : (s : Pool) (decks hands : List (List ℕ)) → ((u : ℕ) → places (pool_of s.book decks hands) u ≡ places s u) → IsFine s → IsFine (pool_of s.book decks hands)
fine-moved s decks hands same f = record {
  kept = f.kept;
  bound = λ t h. same t ∙ f.bound t h;
  once = λ t. omega (arith, same t, f.once t);
  there = λ t r e o. omega (arith, same t, f.there t r e o);
}

-- as many rows, and tickets are lost of closed rows alone
fine-closed : (s n : Pool) → IsKept n.book → length n.book.rows ≡ length s.book.rows → ((u : ℕ) → places n u ≤ places s u)
    → ((u : ℕ) (r : Row) → slice_get n.book.rows u ≡ Some r → is_open r.mark ≡ true → (q : Row) × (slice_get s.book.rows u ≡ Some q) × (is_open q.mark ≡ true) × (places s u ≤ places n u))
    → IsFine s → IsFine n
fine-closed s n k l less more f = record {
  kept = k;
  bound = λ t h. omega (arith, less t, f.bound t (omega (arith, h, l)));
  once = λ t. omega (arith, less t, f.once t);
  there = λ t r e o.
      let x = more t r e o in
      omega (arith, x.3, f.there t x.0 x.1 x.2);
}

push-fine : (s : Pool) (w t : ℕ) (hand deck : List ℕ) → slice_get s.hands w ≡ Some hand → 0 < times t hand → slice_get s.decks w ≡ Some deck → IsFine s
    → IsFine (pool_of s.book (slice_set s.decks w (deck ++ t ∷ [])) (slice_set s.hands w (without t hand)))
push-fine s w t hand deck e h g f =
    fine-moved s (slice_set s.decks w (deck ++ t ∷ [])) (slice_set s.hands w (without t hand))
    (λ u. omega (arith, times-set u w s.decks deck (deck ++ t ∷ []) g, times-append u deck (t ∷ []), times-set u w s.hands hand (without t hand) e, times-without t u hand h)) f

take-fine : (s : Pool) (v w t : ℕ) (hand deck : List ℕ) → slice_get s.hands w ≡ Some hand → slice_get s.decks v ≡ Some (t ∷ deck) → IsFine s
    → IsFine (pool_of s.book (slice_set s.decks v deck) (slice_set s.hands w (hand ++ t ∷ [])))
take-fine s v w t hand deck e g f =
    fine-moved s (slice_set s.decks v deck) (slice_set s.hands w (hand ++ t ∷ []))
    (λ u. omega (arith, times-set u v s.decks (t ∷ deck) deck g, times-append u hand (t ∷ []), times-set u w s.hands hand (hand ++ t ∷ []) e)) f

-- a hand that has lost no more than one ticket
lost : (s : Pool) (b : Book) (w t u : ℕ) (hand : List ℕ) → slice_get s.hands w ≡ Some hand → places (pool_of b s.decks (slice_set s.hands w (without t hand))) u ≤ places s u
lost s b w t u hand e = omega (arith, times-set u w s.hands hand (without t hand) e, times-without_le t u hand)

lost_other : (s : Pool) (b : Book) (w t u : ℕ) (hand : List ℕ) → slice_get s.hands w ≡ Some hand → (t ≡ u → ⊥) → places s u ≤ places (pool_of b s.decks (slice_set s.hands w (without t hand))) u
lost_other s b w t u hand e n = omega (arith, times-set u w s.hands hand (without t hand) e, without-other t u hand n)

same_hand : (s : Pool) (b : Book) (w u : ℕ) (hand : List ℕ) → slice_get s.hands w ≡ Some hand → places (pool_of b s.decks (slice_set s.hands w hand)) u ≡ places s u
same_hand s b w u hand e = omega (arith, times-set u w s.hands hand hand e)

live-fine : (s : Pool) (w t : ℕ) (p hand : List ℕ) → slice_get s.hands w ≡ Some hand → slice_get s.book.rows t ≡ Some (row p Open) → IsFine s
    → IsFine (pool_of (book_of (with_mark s.book.rows t p (Held w)) s.book.best s.book.halted) s.decks (slice_set s.hands w hand))
live-fine s w t p hand e g f =
    let b : Book = book_of (with_mark s.book.rows t p (Held w)) s.book.best s.book.halted in
    let l = later-mark s.book.rows t p Open (Held w) g (λ h. cc) (λ h. refl) (λ h. cc) in
    fine-closed s (pool_of b s.decks (slice_set s.hands w hand)) (claim-keeps s.book t w p g f.kept)
    (length-set s.book.rows t (row p (Held w)))
    (λ u. omega (arith, same_hand s b w u hand e))
    (λ u r h o. let x = l.back u r h in (x.0, x.1, x.3 o, omega (arith, same_hand s b w u hand e))) f

-- open and not claimed is open alone
open_alone : (m : Mark) → is_open m ≡ true → is_claimed m ≡ false → m ≡ Open
open_alone Open o c = refl
open_alone (Held w) o c = cc
open_alone Posted o c = cc
open_alone Dropped o c = cc
open_alone (DroppedHeld w) o c = cc

dead-other : (s : Pool) (t u : ℕ) (r q : Row) → slice_get s.book.rows t ≡ Some r → is_claimed r.mark ≡ false → (slice_get s.book.rows t ≡ Some (row r.path Open) → ⊥)
    → slice_get s.book.rows u ≡ Some q → is_open q.mark ≡ true → t ≡ u → ⊥
dead-other s t u r q e c d g o same =
    let h : r ≡ q = same_Some r q (sym e ∙ ap (slice_get s.book.rows) same ∙ g) in
    let m : r.mark ≡ Open = open_alone r.mark (ap (λ (a : Row). is_open a.mark) h ∙ o) c in
    d (e ∙ ap (λ (a : Mark). Some (row r.path a)) m)

dead-fine : (s : Pool) (w t : ℕ) (hand : List ℕ) (r : Row) → IsAtHand s w t hand r → (slice_get s.book.rows t ≡ Some (row r.path Open) → ⊥) → IsFine s
    → IsFine (pool_of s.book s.decks (slice_set s.hands w (without t hand)))
dead-fine s w t hand r h d f =
    fine-closed s (pool_of s.book s.decks (slice_set s.hands w (without t hand))) f.kept refl
    (λ u. lost s s.book w t u hand h.0)
    (λ u q g o. (q, g, o, lost_other s s.book w t u hand h.0 (dead-other s t u r q h.2 h.3 d g o))) f

halted-fine : (s : Pool) (w : ℕ) (hand : List ℕ) → slice_get s.hands w ≡ Some hand → IsFine s → IsFine (pool_of s.book s.decks (slice_set s.hands w hand))
halted-fine s w hand e f = fine-moved s s.decks (slice_set s.hands w hand) (λ u. same_hand s s.book w u hand e) f

claim-fine : (s : Pool) (w t : ℕ) (hand : List ℕ) (r : Row) (given : claim_type.Claim) (b : Book) → IsAtHand s w t hand r → Claims s.book w t r.path given b → IsFine s
    → IsFine (pool_of b s.decks (slice_set s.hands w (hand_after_claim t hand given)))
claim-fine s w t hand r claim.Live b h c f = subst (λ (x : Book). IsFine (pool_of x s.decks (slice_set s.hands w hand))) (sym c.2) (live-fine s w t r.path hand h.0 c.1 f)
claim-fine s w t hand r claim.Dead b h c f = subst (λ (x : Book). IsFine (pool_of x s.decks (slice_set s.hands w (without t hand)))) (sym c.2) (dead-fine s w t hand r h c.1 f)
claim-fine s w t hand r claim.Halted b h c f = subst (λ (x : Book). IsFine (pool_of x s.decks (slice_set s.hands w hand))) (sym c.1) (halted-fine s w hand h.0 f)

-- a row that is open after a post, as it stood before
open_elsewhere : (rows : List Row) (t u : ℕ) (r c : Row) → is_open c.mark ≡ false → is_open r.mark ≡ true → ((u ≡ t) × (r ≡ c)) ⊎ ((u ≡ t → ⊥) × (slice_get rows u ≡ Some r))
    → (u ≡ t → ⊥) × (slice_get rows u ≡ Some r)
open_elsewhere rows t u r c n o (inl h) = absurd (let z : is_open c.mark ≡ true = ap (λ (a : Row). is_open a.mark) (sym h.1) ∙ o in cc)
open_elsewhere rows t u r c n o (inr h) = h

dropped-fine : (s : Pool) (w t : ℕ) (p hand : List ℕ) → slice_get s.hands w ≡ Some hand → slice_get s.book.rows t ≡ Some (row p (DroppedHeld w)) → IsFine s
    → IsFine (pool_of (book_of (with_mark s.book.rows t p Dropped) s.book.best s.book.halted) s.decks (slice_set s.hands w (without t hand)))
dropped-fine s w t p hand e g f =
    let b : Book = book_of (with_mark s.book.rows t p Dropped) s.book.best s.book.halted in
    fine-closed s (pool_of b s.decks (slice_set s.hands w (without t hand))) (dropped-keeps s.book t w p g f.kept)
    (length-set s.book.rows t (row p Dropped))
    (λ u. lost s b w t u hand e)
    (λ u r h o.
    let x = open_elsewhere s.book.rows t u r (row p Dropped) refl o (set-cases s.book.rows t (row p Dropped) u r h) in
    (r, x.1, o, lost_other s b w t u hand e (λ z. x.0 (sym z)))) f

stop-fine : (s : Pool) (w t : ℕ) (p hand : List ℕ) (kind : StopKind) → slice_get s.hands w ≡ Some hand → slice_get s.book.rows t ≡ Some (row p (Held w)) → IsFine s
    → IsFine (pool_of (book_of (map (dropped_after p) (with_mark s.book.rows t p Posted)) (Some (t, kind)) s.book.halted) s.decks (slice_set s.hands w (without t hand)))
stop-fine s w t p hand kind e g f =
    let b : Book = book_of (map (dropped_after p) (with_mark s.book.rows t p Posted)) (Some (t, kind)) s.book.halted in
    fine-closed s (pool_of b s.decks (slice_set s.hands w (without t hand))) (stop-keeps s.book t w p kind g f.kept)
    (length-map (with_mark s.book.rows t p Posted) (dropped_after p) ∙ length-set s.book.rows t (row p Posted))
    (λ u. lost s b w t u hand e)
    (λ u r h o.
    let x = left_open s.book.rows t p u r (stopped s.book.rows t p u r h) o in
    (x.0, x.2, x.5, lost_other s b w t u hand e (λ z. x.1 (sym z)))) f

-- how often a ticket stands after kids were posted
grown_places : (s : Pool) (b : Book) (w t u n first : ℕ) (hand : List ℕ) → slice_get s.hands w ≡ Some hand
    → places (pool_of b s.decks (slice_set s.hands w (without t hand ++ tickets first n))) u + times u hand ≡ places s u + times u (without t hand) + times u (tickets first n)
grown_places s b w t u n first hand e = omega (arith, times-set u w s.hands hand (without t hand ++ tickets first n) e, times-append u (without t hand) (tickets first n))

length_grown : (rows : List Row) (t : ℕ) (p : List ℕ) (n : ℕ) → length (with_mark rows t p Posted ++ kids p 0 n) ≡ length rows + n
length_grown rows t p n = omega (arith, length-append (with_mark rows t p Posted) (kids p 0 n), length-set rows t (row p Posted), length-kids p 0 n)

once_grown : (places' places0 in_hand left new limit u n : ℕ) → places' + in_hand ≡ places0 + left + new → left ≤ in_hand → places0 ≤ 1 → new ≤ 1 → (limit ≤ u → places0 ≡ 0)
    → (u < limit → new ≡ 0) → places' ≤ 1
once_grown places' places0 in_hand left new limit u n e l o m b z = grind (arith)

kids_there : (s : Pool) (b : Book) (w t u n : ℕ) (hand : List ℕ) (r : Row) → slice_get s.hands w ≡ Some hand → u < length s.book.rows + n → is_open r.mark ≡ true → IsFine s
    → (length s.book.rows ≤ u) ⊎ ((u ≡ t → ⊥) × (slice_get s.book.rows u ≡ Some r)) → 1 ≤ places (pool_of b s.decks (slice_set s.hands w (without t hand ++ tickets (length s.book.rows) n))) u
kids_there s b w t u n hand r e h o f (inl l) =
    omega (
      arith,
      grown_places s b w t u n (length s.book.rows) hand e,
      times-tickets_there u (length s.book.rows) n l h,
      f.bound u l,
      times-without_le t u hand,
      let v = times-set u w s.hands hand [] e in v,
    )
kids_there s b w t u n hand r e h o f (inr x) =
    omega (arith, grown_places s b w t u n (length s.book.rows) hand e, without-other t u hand (λ z. x.0 (sym z)), f.there u r x.1 o)

kids_place : (rows : List Row) (t : ℕ) (p : List ℕ) (n u : ℕ) (r : Row) → is_open r.mark ≡ true
    → (slice_get (with_mark rows t p Posted) u ≡ Some r) ⊎ ((j : ℕ) × (u ≡ length (with_mark rows t p Posted) + j) × (slice_get (kids p 0 n) j ≡ Some r))
    → (length rows ≤ u) ⊎ ((u ≡ t → ⊥) × (slice_get rows u ≡ Some r))
kids_place rows t p n u r o (inl h) = inr (open_elsewhere rows t u r (row p Posted) refl o (set-cases rows t (row p Posted) u r h))
kids_place rows t p n u r o (inr h) = inl (omega (arith, h.1, length-set rows t (row p Posted)))

kids-fine : (s : Pool) (w t : ℕ) (p hand : List ℕ) (n : ℕ) → slice_get s.hands w ≡ Some hand → slice_get s.book.rows t ≡ Some (row p (Held w)) → IsFine s
    → IsFine (pool_of (book_of (with_mark s.book.rows t p Posted ++ kids p 0 n) s.book.best s.book.halted) s.decks (slice_set s.hands w (without t hand ++ tickets (length s.book.rows) n)))
kids-fine s w t p hand n e g f =
    let b : Book = book_of (with_mark s.book.rows t p Posted ++ kids p 0 n) s.book.best s.book.halted in
    record {
      kept = kids-keeps s.book t w p n g f.kept;
      bound = λ u h.
          let k : length s.book.rows + n ≤ u = omega (arith, h, length_grown s.book.rows t p n) in
          omega (arith, grown_places s b w t u n (length s.book.rows) hand e, times-tickets_past u (length s.book.rows) n k, f.bound u (omega (arith, k)), times-without_le t u hand);
      once = λ u.
          once_grown (places (pool_of b s.decks (slice_set s.hands w (without t hand ++ tickets (length s.book.rows) n))) u) (places s u) (times u hand) (times u (without t hand))
          (times u (tickets (length s.book.rows) n)) (length s.book.rows) u n
          (grown_places s b w t u n (length s.book.rows) hand e) (times-without_le t u hand) (f.once u) (times-tickets_once u (length s.book.rows) n) (f.bound u)
          (times-tickets_below u (length s.book.rows) n);
      there = λ u r h o.
          let l : u < length s.book.rows + n = omega (arith, slice_get_within (with_mark s.book.rows t p Posted ++ kids p 0 n) u r h, length_grown s.book.rows t p n) in
          kids_there s b w t u n hand r e l o f (kids_place s.book.rows t p n u r o (append-cases (with_mark s.book.rows t p Posted) (kids p 0 n) u r h));
    }

post-fine : (s : Pool) (w t : ℕ) (p hand : List ℕ) (found : post_type.Post) (given : posted_type.Posted) (b : Book) → slice_get s.hands w ≡ Some hand → Posts s.book w t p found given b → IsFine s
    → IsFine (pool_of b s.decks (slice_set s.hands w (hand_after_post t hand found given)))
post-fine s w t p hand found answer.Dropped b e c f = subst (λ (x : Book). IsFine (pool_of x s.decks (slice_set s.hands w (without t hand)))) (sym c.1) (dropped-fine s w t p hand e c.0 f)
post-fine s w t p hand (result.Kids n) (answer.Kids first) b e c f =
    subst (λ (x : Book). IsFine (pool_of x s.decks (slice_set s.hands w (without t hand ++ tickets first n)))) (sym c.2)
    (subst (λ (k : ℕ). IsFine (pool_of (book_of (with_mark s.book.rows t p Posted ++ kids p 0 n) s.book.best s.book.halted) s.decks (slice_set s.hands w (without t hand ++ tickets k n))))
    (sym c.1) (kids-fine s w t p hand n e c.0 f))
post-fine s w t p hand (result.Stop kind) answer.Best b e c f = subst (λ (x : Book). IsFine (pool_of x s.decks (slice_set s.hands w (without t hand)))) (sym c.1) (stop-fine s w t p hand kind e c.0 f)
post-fine s w t p hand (result.Kids n) answer.Best b e c f = absurd c
post-fine s w t p hand (result.Stop kind) (answer.Kids first) b e c f = absurd c

halt-fine : (s : Pool) → IsFine s → IsFine (pool_of (halted_book s.book) s.decks s.hands)
halt-fine s f = record { kept = halt-keeps s.book f.kept; bound = f.bound; once = f.once; there = f.there }

pub step-fine : (s n : Pool) (e : event_type.Event) → Step s e n → IsFine s → IsFine n
step-fine s n (event.Push w t) h f = subst IsFine (sym h.5) (push-fine s w t h.0 h.1 h.3.0 h.3.1 h.4 f)
step-fine s n (event.Pop w t) h f = subst IsFine (sym h.4) (take-fine s w w t h.0 h.1 h.2 h.3 f)
step-fine s n (event.Steal w t) h f = subst IsFine (sym h.6) (take-fine s h.0 w t h.1 h.2 h.4 h.5 f)
step-fine s n (event.Claim w t) h f = subst IsFine (sym h.6) (claim-fine s w t h.0 h.1 h.2 h.3 h.4 h.5 f)
step-fine s n (event.Post w t found) h f = subst IsFine (sym h.6) (post-fine s w t h.1 h.0 found h.2 h.3 h.4 h.5 f)
step-fine s n (event.Halt w t) h f = subst IsFine (sym h) (halt-fine s f)

pub run-fine : (events : List event_type.Event) (s n : Pool) → Run s events n → IsFine s → IsFine n
run-fine [] s n h f = subst IsFine (sym h) f
run-fine (e ∷ events) s n h f = run-fine events h.0 n h.2 (step-fine s h.0 e h.1 f)

only_root : (t : ℕ) (r : Row) → slice_get (row [] Open ∷ []) t ≡ Some r → (t ≡ 0) × (r ≡ row [] Open)
only_root zero r e = (refl, sym (same_Some (row [] Open) r e))
only_root (suc t) r e = absurd (none-some r e)

no_best : (u : ℕ) → IsBest first_book u → ⊥
no_best u best = none-some (u, best.0) best.1

pub first-kept : IsKept first_book
first-kept = record {
  after = λ t r e d.
      let x = only_root t r e in
      absurd (let z : is_dropped Open ≡ true = ap (λ (a : Row). is_dropped a.mark) (sym x.1) ∙ d in cc);
  ahead = λ t r e o u q best f. absurd (no_best u best);
  apart = λ t u r q e f o p n. absurd (n ((only_root t r e).0 ∙ sym (only_root u q f).0));
  apart_best = λ t u r q e f o best. absurd (no_best u best);
  best_row = λ u best. absurd (no_best u best);
}

start_places : (others t : ℕ) → places (start (suc others)) t ≡ times t (0 ∷ [])
start_places others t = omega (arith, times-nobody t others, times-nobody t (suc others))

start-fine : (others : ℕ) → IsFine (start (suc others))
start-fine others = record {
  kept = first-kept;
  bound = λ t h. start_places others t ∙ times-other 0 t (λ z. omega (arith, z, h));
  once = λ t. omega (arith, start_places others t, times-tickets_once t 0 1);
  there = λ t r e o.
      let x = only_root t r e in
      let y : times t (0 ∷ []) ≡ 1 = ap (λ (a : ℕ). times a (0 ∷ [])) x.0 in
      omega (arith, start_places others t, y);
}

live_apart : (b : Book) (t u : ℕ) (r q : Row) → IsKept b → slice_get b.rows t ≡ Some r → slice_get b.rows u ≡ Some q → IsLive b t r → IsLive b u q → (t ≡ u → ⊥) → is_prefix r.path q.path ≡ false
live_apart b t u r q k e f (inl o) (inl p) n = k.apart t u r q e f o p n
live_apart b t u r q k e f (inl o) (inr best) n = (k.apart_best t u r q e f o best).0
live_apart b t u r q k e f (inr best) (inl p) n = (k.apart_best u t q r f e p best).1
live_apart b t u r q k e f (inr best) (inr other) n = absurd (n (ap (λ (a : ℕ × StopKind). a.0) (same_Some (t, best.0) (u, other.0) (sym best.1 ∙ other.1))))

pub sound-of : (s : Pool) → IsFine s → IsSound s
sound-of s f = record {
  once = f.once;
  there = f.there;
  after = f.kept.after;
  apart = λ t u r q e g l m n. live_apart s.book t u r q f.kept e g l m n;
}

pub all-sound : (workers : ℕ) → 1 ≤ workers → (events : List event_type.Event) (now : Pool) → Run (start workers) events now → IsSound now
all-sound zero h events now r = absurd (omega (arith, h))
all-sound (suc others) h events now r = sound-of now (run-fine events (start (suc others)) now r (start-fine others))
