-- What a book keeps of its parts, through each of its calls.
use Rattle.std.proofs.Common.{◌≡◌, ℕ, ◌+◌, ◌*◌, ◌≤◌, List, [], ◌∷◌, ◌++◌, length, map, Option, Some}
use Rattle.std.proofs.Common.{None, Bool, true, false, refl, ap, ◌∙◌, sym, subst, ◌⊎◌, inl, inr, arith, length-append}
use Rattle.std.specs.Prelude.{slice_get, slice_set}
use Rattle.std.proofs.Math.ListN.{length-set}
use Rattle.std.proofs.lemmas.List.{length-map}
use Rattle.std.proofs.lemmas.Bool.Decides.{nat_tests}
use Rattle.std.proofs.lemmas.Option.{slice_get_within}
use Rattle.dps_branch.specs.declared.kind.StopKind.{StopKind}
use Rattle.dps_core.specs.declared.event.Mark.TheVariants.{Open, Held, Posted, Dropped, DroppedHeld}
use Rattle.dps_core.specs.declared.event.Post as post_type
use Rattle.dps_core.specs.declared.event.Post.TheVariants as result
use Rattle.dps_core.specs.declared.event.Posted.TheVariants as answer
use Rattle.dps_core.specs.declared.rows.Row.{Row}
use Rattle.dps_core.specs.Book.{first_book, row, dropped_after, kids, with_mark}
use Rattle.dps_core.proofs.Books.{book_of}
use Rattle.dps_core.proofs.Lists.{set-cases, length-kids}
use Rattle.dps_book.specs.declared.entry.Entry.{Entry}
use Rattle.dps_book.specs.declared.entry.Entry.TheVariants as entry
use Rattle.dps_book.specs.Journal.{claim_by, claims_by, AreKnown}
use Rattle.dps_book.specs.Right.{opens, IsRight}
use Rattle.dps_book.proofs.Counts.{opens-set, owed-set, opens-append, owed-append, opens-kids, owed-kids, owed-drop, replay-append, claims_by-append, known-append}
use Rattle.dps_book.proofs.Holding.{held-claim, held-post, held-kids, held-drop}

pub right-roomier : (rows : List Row) (best : Option (ℕ × StopKind)) (halted : Bool) (n : ℕ) (holds : List (Option ℕ)) (claims : List ℕ) (journal : List Entry) (room more : ℕ) → room ≤ more
    → IsRight rows best halted n holds claims journal room → IsRight rows best halted n holds claims journal more
right-roomier rows best halted n holds claims journal room more l k = record {
  replay = k.replay;
  counted = k.counted;
  holding = k.holding;
  same_workers = k.same_workers;
  claimed = k.claimed;
  known = k.known;
  owing = k.owing;
  enough = omega (arith, k.enough, l);
}

one_claim : (w t v : ℕ) → v ≡ w → claim_by v (entry.Claimed w t) ≡ 1
one_claim w t v e = grind (arith, nat_tests, e)

no_claim : (w t v : ℕ) → (v ≡ w → ⊥) → claim_by v (entry.Claimed w t) ≡ 0
no_claim w t v e = grind (arith, nat_tests, e)

claimed_more : (claims : List ℕ) (w t n m v k : ℕ) (journal : List Entry) → ((v n : ℕ) → slice_get claims v ≡ Some n → n ≡ claims_by v journal) → slice_get claims w ≡ Some n → m ≡ n + 1
    → ((v ≡ w) × (k ≡ m)) ⊎ ((v ≡ w → ⊥) × (slice_get claims v ≡ Some k)) → k ≡ claims_by v (journal ++ entry.Claimed w t ∷ [])
claimed_more claims w t n m v k journal old e more (inl h) =
    omega (arith, h.1, more, old v n (ap (slice_get claims) h.0 ∙ e), one_claim w t v h.0, claims_by-append v journal (entry.Claimed w t))
claimed_more claims w t n m v k journal old e more (inr h) = omega (arith, old v k h.1, no_claim w t v h.0, claims_by-append v journal (entry.Claimed w t))

pub right-claim : (rows : List Row) (best : Option (ℕ × StopKind)) (open_paths : ℕ) (holds : List (Option ℕ)) (claims : List ℕ) (journal : List Entry) (room : ℕ) (w t n m : ℕ) (p : List ℕ)
    → slice_get rows t ≡ Some (row p Open) → slice_get holds w ≡ Some None → slice_get claims w ≡ Some n → m ≡ n + 1 → IsRight rows best false open_paths holds claims journal room
    → IsRight (with_mark rows t p (Held w)) best false open_paths (slice_set holds w (Some t)) (slice_set claims w m) (journal ++ entry.Claimed w t ∷ []) room
right-claim rows best open_paths holds claims journal room w t n m p e free mine more k =
    let r : Row = row p (Held w) in
    record {
      replay = replay-append journal (entry.Claimed w t) first_book (book_of rows best false) (book_of (with_mark rows t p (Held w)) best false) k.replay (p, (refl, e, refl));
      counted = omega (arith, k.counted, opens-set rows t (row p Open) r e);
      holding = held-claim rows holds t w p k.holding e free;
      same_workers = length-set claims w m ∙ k.same_workers ∙ sym (length-set holds w (Some t));
      claimed = λ v x h. claimed_more claims w t n m v x journal k.claimed mine more (set-cases claims w m v x h);
      known = known-append (length (slice_set holds w (Some t))) journal (entry.Claimed w t) (subst (λ x. AreKnown x journal) (sym (length-set holds w (Some t))) k.known)
          (omega (arith, slice_get_within holds w None free, length-set holds w (Some t)));
      owing = omega (arith, k.owing, owed-set rows t (row p Open) r e, length-append journal (entry.Claimed w t ∷ []), length-set rows t r);
      enough = omega (arith, k.enough, length-set rows t r);
    }

pub right-halt : (rows : List Row) (best : Option (ℕ × StopKind)) (open_paths : ℕ) (holds : List (Option ℕ)) (claims : List ℕ) (journal : List Entry) (room w : ℕ)
    → IsRight rows best false open_paths holds claims journal room → IsRight rows best true open_paths holds claims (journal ++ entry.Halted w ∷ []) room
right-halt rows best open_paths holds claims journal room w k = record {
  replay = replay-append journal (entry.Halted w) first_book (book_of rows best false) (book_of rows best true) k.replay (refl, refl);
  counted = k.counted;
  holding = k.holding;
  same_workers = k.same_workers;
  claimed = λ v x h. omega (arith, k.claimed v x h, claims_by-append v journal (entry.Halted w));
  known = known-append (length holds) journal (entry.Halted w) k.known tt;
  owing = omega (arith, k.owing, length-append journal (entry.Halted w ∷ []));
  enough = k.enough;
}

-- a post that was dropped
pub right-late : (rows : List Row) (best : Option (ℕ × StopKind)) (halted : Bool) (open_paths : ℕ) (holds : List (Option ℕ)) (claims : List ℕ) (journal : List Entry) (room : ℕ) (w t : ℕ)
    (p : List ℕ) (found : post_type.Post)
    → slice_get rows t ≡ Some (row p (DroppedHeld w)) → slice_get holds w ≡ Some (Some t) → IsRight rows best halted open_paths holds claims journal room
    → IsRight (with_mark rows t p Dropped) best halted open_paths (slice_set holds w None) claims (journal ++ entry.Posted w t found ∷ []) room
right-late rows best halted open_paths holds claims journal room w t p found e mine k =
    let r : Row = row p Dropped in
    record {
      replay = replay-append journal (entry.Posted w t found) first_book (book_of rows best halted) (book_of (with_mark rows t p Dropped) best halted) k.replay (p, answer.Dropped, (e, refl));
      counted = omega (arith, k.counted, opens-set rows t (row p (DroppedHeld w)) r e);
      holding = held-post rows holds t w p (DroppedHeld w) Dropped k.holding e mine refl refl;
      same_workers = k.same_workers ∙ sym (length-set holds w None);
      claimed = λ v x h. omega (arith, k.claimed v x h, claims_by-append v journal (entry.Posted w t found));
      known = known-append (length (slice_set holds w None)) journal (entry.Posted w t found) (subst (λ x. AreKnown x journal) (sym (length-set holds w None)) k.known) tt;
      owing = omega (arith, k.owing, owed-set rows t (row p (DroppedHeld w)) r e, length-append journal (entry.Posted w t found ∷ []), length-set rows t r);
      enough = omega (arith, k.enough, length-set rows t r);
    }

pub right-kids : (rows : List Row) (best : Option (ℕ × StopKind)) (halted : Bool) (open_paths more : ℕ) (holds : List (Option ℕ)) (claims : List ℕ) (journal : List Entry) (room larger : ℕ)
    (w t n : ℕ) (p : List ℕ)
    → slice_get rows t ≡ Some (row p (Held w)) → slice_get holds w ≡ Some (Some t) → more + 1 ≡ open_paths + n → 2 * (length rows + n) + 1 ≤ larger
    → IsRight rows best halted open_paths holds claims journal room
    → IsRight (with_mark rows t p Posted ++ kids p 0 n) best halted more (slice_set holds w None) claims (journal ++ entry.Posted w t (result.Kids n) ∷ []) larger
right-kids rows best halted open_paths more holds claims journal room larger w t n p e mine count enough k =
    let r : Row = row p Posted in
    let done : List Row = with_mark rows t p Posted in
    let size : length (done ++ kids p 0 n) ≡ length rows + n = omega (arith, length-append done (kids p 0 n), length-kids p 0 n, length-set rows t r) in
    record {
      replay = replay-append journal (entry.Posted w t (result.Kids n)) first_book (book_of rows best halted) (book_of (done ++ kids p 0 n) best halted) k.replay
          (p, answer.Kids (length rows), (e, refl, refl));
      counted = omega (arith, k.counted, count, opens-set rows t (row p (Held w)) r e, opens-append done (kids p 0 n), opens-kids p 0 n);
      holding = held-kids done (slice_set holds w None) p n (held-post rows holds t w p (Held w) Posted k.holding e mine refl refl);
      same_workers = k.same_workers ∙ sym (length-set holds w None);
      claimed = λ v x h. omega (arith, k.claimed v x h, claims_by-append v journal (entry.Posted w t (result.Kids n)));
      known = known-append (length (slice_set holds w None)) journal (entry.Posted w t (result.Kids n)) (subst (λ x. AreKnown x journal) (sym (length-set holds w None)) k.known) tt;
      owing = omega (arith, k.owing, owed-set rows t (row p (Held w)) r e, owed-append done (kids p 0 n), owed-kids p 0 n, length-append journal (entry.Posted w t (result.Kids n) ∷ []), size);
      enough = omega (arith, enough, size);
    }

pub right-stop : (rows : List Row) (best : Option (ℕ × StopKind)) (halted : Bool) (open_paths left : ℕ) (holds : List (Option ℕ)) (claims : List ℕ) (journal : List Entry) (room : ℕ) (w t : ℕ)
    (kind : StopKind) (p : List ℕ)
    → slice_get rows t ≡ Some (row p (Held w)) → slice_get holds w ≡ Some (Some t) → left ≡ opens (map (dropped_after p) (with_mark rows t p Posted))
    → IsRight rows best halted open_paths holds claims journal room
    → IsRight (map (dropped_after p) (with_mark rows t p Posted)) (Some (t, kind)) halted left (slice_set holds w None) claims (journal ++ entry.Posted w t (result.Stop kind) ∷ []) room
right-stop rows best halted open_paths left holds claims journal room w t kind p e mine count k =
    let r : Row = row p Posted in
    let done : List Row = with_mark rows t p Posted in
    let size : length (map (dropped_after p) done) ≡ length rows = length-map done (dropped_after p) ∙ length-set rows t r in
    record {
      replay = replay-append journal (entry.Posted w t (result.Stop kind)) first_book (book_of rows best halted) (book_of (map (dropped_after p) done) (Some (t, kind)) halted) k.replay
          (p, answer.Best, (e, refl));
      counted = count;
      holding = held-drop done (slice_set holds w None) p (held-post rows holds t w p (Held w) Posted k.holding e mine refl refl);
      same_workers = k.same_workers ∙ sym (length-set holds w None);
      claimed = λ v x h. omega (arith, k.claimed v x h, claims_by-append v journal (entry.Posted w t (result.Stop kind)));
      known = known-append (length (slice_set holds w None)) journal (entry.Posted w t (result.Stop kind)) (subst (λ x. AreKnown x journal) (sym (length-set holds w None)) k.known) tt;
      owing = omega (arith, k.owing, owed-set rows t (row p (Held w)) r e, owed-drop p done, length-append journal (entry.Posted w t (result.Stop kind) ∷ []), size);
      enough = omega (arith, k.enough, size);
    }
