-- What the parts of a book say of its ledger, and how the ledger goes on.
use Rattle.std.proofs.Common.{◌≡◌, ℕ, ◌+◌, ◌*◌, ◌≤◌, List, [], ◌∷◌, ◌++◌, length, map, Option, Some, None, Bool, true, false, refl, ap, ◌∙◌, sym, subst, arith}
use Rattle.std.specs.Prelude.{slice_get, slice_set}
use Rattle.std.proofs.Math.ListN.{length-set}
use Rattle.std.proofs.lemmas.Option.{same_Some, none-some, slice_get_within}
use Rattle.dps_branch.specs.declared.kind.StopKind.{StopKind}
use Rattle.dps_core.specs.declared.event.Mark.{Mark}
use Rattle.dps_core.specs.declared.event.Mark.TheVariants.{Open, Held, Posted, Dropped, DroppedHeld}
use Rattle.dps_core.specs.declared.event.Post as post_type
use Rattle.dps_core.specs.declared.event.Posted as posted_type
use Rattle.dps_core.specs.declared.event.Claim.TheVariants as claim
use Rattle.dps_core.specs.declared.event.Post.TheVariants as result
use Rattle.dps_core.specs.declared.event.Posted.TheVariants as answer
use Rattle.dps_core.specs.declared.rows.Row.{Row}
use Rattle.dps_core.specs.Book.{Book, row, first_book, dropped_after, kids, with_mark, Posts}
use Rattle.dps_core.proofs.Books.{book_of, IsKept, claim-keeps, dropped-keeps, halt-keeps, kids-keeps, stop-keeps}
use Rattle.dps_core.proofs.Pools.{first-kept}
use Rattle.dps_book.specs.declared.entry.Entry.{Entry}
use Rattle.dps_book.specs.declared.entry.Entry.TheVariants as entry
use Rattle.dps_book.specs.Journal.{Happens, IsReplay}
use Rattle.dps_book.specs.Ledger.{Ledger, holder, Holds, IsReady, IsClaim, IsPost}
use Rattle.dps_book.specs.Right.{opens, AreHeld, IsRight}
use Rattle.dps_book.proofs.Keeping.{right-claim, right-halt, right-late, right-kids, right-stop}

abbrev pub ledger_of : Book → ℕ → List Entry → Ledger
ledger_of b workers journal = record { book = b; workers = workers; journal = journal }

-- a worker that is ready has an empty place
free_place : (l : Ledger) (holds : List (Option ℕ)) (w : ℕ) (x : Option ℕ) → AreHeld l.book.rows holds → IsReady l w → slice_get holds w ≡ Some x → x ≡ None
free_place l holds w None k r e = refl
free_place l holds w (Some t) k r e = let m = k.marked w t e in absurd (r.1 t m.0.path (m.0.mark, m.1, m.2))

pub place-free : (l : Ledger) (holds : List (Option ℕ)) (w : ℕ) (x : Option ℕ) → AreHeld l.book.rows holds → IsReady l w → slice_get holds w ≡ Some x → slice_get holds w ≡ Some None
place-free l holds w x k r e = e ∙ ap (λ (y : Option ℕ). Some y) (free_place l holds w x k r e)

pub not-ready : (l : Ledger) (holds : List (Option ℕ)) (w t : ℕ) → AreHeld l.book.rows holds → slice_get holds w ≡ Some (Some t) → IsReady l w → ⊥
not-ready l holds w t k e r = none-some t (sym (free_place l holds w (Some t) k r e))

pub is-ready : (l : Ledger) (holds : List (Option ℕ)) (w : ℕ) → AreHeld l.book.rows holds → length holds ≡ l.workers → slice_get holds w ≡ Some None → IsReady l w
is-ready l holds w k n e =
    (omega (arith, n, slice_get_within holds w None e), λ t p h. none-some t (same_Some None (Some t) (sym e ∙ k.held t w (row p h.0) h.1 h.2)))

-- a worker holds what its place says
pub place-holds : (l : Ledger) (holds : List (Option ℕ)) (w t : ℕ) → AreHeld l.book.rows holds → slice_get holds w ≡ Some (Some t) → (p : List ℕ) × Holds l w t p
place-holds l holds w t k e = let m = k.marked w t e in (m.0.path, (m.0.mark, m.1, m.2))

pub holds-place : (l : Ledger) (holds : List (Option ℕ)) (w t : ℕ) (p : List ℕ) → AreHeld l.book.rows holds → Holds l w t p → slice_get holds w ≡ Some (Some t)
holds-place l holds w t p k h = k.held t w (row p h.0) h.1 h.2

pub same-ticket : (holds : List (Option ℕ)) (w t u : ℕ) → slice_get holds w ≡ Some (Some t) → slice_get holds w ≡ Some (Some u) → t ≡ u
same-ticket holds w t u e f = same_Some t u (same_Some (Some t) (Some u) (sym e ∙ f))

-- what a worker holds is the ticket at its place, with the mark of that row
pub held-as : (l : Ledger) (holds : List (Option ℕ)) (w t ticket : ℕ) (path : List ℕ) (r : Row) (mark : Mark) → AreHeld l.book.rows holds → slice_get holds w ≡ Some (Some t)
    → slice_get l.book.rows t ≡ Some r → r.mark ≡ mark → Holds l w ticket path → (t ≡ ticket) × (slice_get l.book.rows t ≡ Some (row path mark))
held-as l holds w t ticket path r mark k mine e m h =
    let same : t ≡ ticket = same-ticket holds w t ticket mine (holds-place l holds w ticket path k h) in
    let there : slice_get l.book.rows t ≡ Some (row path h.0) = ap (slice_get l.book.rows) same ∙ h.1 in
    let is : row path h.0 ≡ r = same_Some (row path h.0) r (sym there ∙ e) in
    (same, there ∙ ap (λ (x : Mark). Some (row path x)) (ap (λ (a : Row). a.mark) is ∙ m))

-- the mark of what a worker holds
pub mark-held : (rows : List Row) (holds : List (Option ℕ)) (w t : ℕ) (p : List ℕ) (m : Mark) → AreHeld rows holds → slice_get holds w ≡ Some (Some t) → slice_get rows t ≡ Some (row p m)
    → holder m ≡ Some w
mark-held rows holds w t p m k e f =
    let h = k.marked w t e in
    ap (λ (a : Row). holder a.mark) (same_Some (row p m) h.0 (sym f ∙ h.1)) ∙ h.2

-- a mark that this worker holds, and that is not dropped
pub held-open : (m : Mark) (w : ℕ) → holder m ≡ Some w → (m ≡ DroppedHeld w → ⊥) → m ≡ Held w
held-open Open w h n = absurd (none-some w h)
held-open (Held v) w h n = ap Held (same_Some v w h)
held-open Posted w h n = absurd (none-some w h)
held-open Dropped w h n = absurd (none-some w h)
held-open (DroppedHeld v) w h n = absurd (n (ap DroppedHeld (same_Some v w h)))

post_keeps : (a b : Book) (w t : ℕ) (p : List ℕ) (found : post_type.Post) (given : posted_type.Posted) → Posts a w t p found given b → IsKept a → IsKept b
post_keeps a b w t p found answer.Dropped h k = subst IsKept (sym h.1) (dropped-keeps a t w p h.0 k)
post_keeps a b w t p (result.Kids n) (answer.Kids first) h k = subst IsKept (sym h.2) (kids-keeps a t w p n h.0 k)
post_keeps a b w t p (result.Stop kind) answer.Best h k = subst IsKept (sym h.1) (stop-keeps a t w p kind h.0 k)
post_keeps a b w t p (result.Kids n) answer.Best h k = absurd h
post_keeps a b w t p (result.Stop kind) (answer.Kids first) h k = absurd h

happens-keeps : (a b : Book) (e : Entry) → Happens a e b → IsKept a → IsKept b
happens-keeps a b (entry.Claimed w t) h k = subst IsKept (sym h.1.2) (claim-keeps a t w h.0 h.1.1 k)
happens-keeps a b (entry.Posted w t found) h k = post_keeps a b w t h.0 found h.1 h.2 k
happens-keeps a b (entry.Halted w) h k = subst IsKept (sym h.1) (halt-keeps a k)

pub replay-keeps : (journal : List Entry) (a b : Book) → IsReplay a journal b → IsKept a → IsKept b
replay-keeps [] a b r k = subst IsKept (sym r) k
replay-keeps (e ∷ journal) a b r k = replay-keeps journal r.0 b r.2 (happens-keeps a r.0 e r.1 k)

pub book-kept : (journal : List Entry) (b : Book) → IsReplay first_book journal b → IsKept b
book-kept journal b r = replay-keeps journal first_book b r first-kept

-- a claim, in the forms that the call leaves
pub claimed-right : (rows : List Row) (best : Option (ℕ × StopKind)) (halted : Bool) (n : ℕ) (holds : List (Option ℕ)) (claims : List ℕ) (journal new : List Entry) (room more : ℕ) (w t k : ℕ)
    (p q : List ℕ)
    → halted ≡ false → slice_get rows t ≡ Some (row p Open) → slice_get holds w ≡ Some None → slice_get claims w ≡ Some k → q ≡ p → new ≡ journal ++ entry.Claimed w t ∷ [] → more ≡ room
    → IsRight rows best halted n holds claims journal room → IsRight (slice_set rows t (row q (Held w))) best halted n (slice_set holds w (Some t)) (slice_set claims w (k + 1)) new more
claimed-right rows best halted n holds claims journal new room more w t k p q on e free mine path added same right =
    subst (λ (x : List ℕ). IsRight (slice_set rows t (row x (Held w))) best halted n (slice_set holds w (Some t)) (slice_set claims w (k + 1)) new more) (sym path)
    (subst (λ (x : List Entry). IsRight (with_mark rows t p (Held w)) best halted n (slice_set holds w (Some t)) (slice_set claims w (k + 1)) x more) (sym added)
    (subst (λ (x : ℕ). IsRight (with_mark rows t p (Held w)) best halted n (slice_set holds w (Some t)) (slice_set claims w (k + 1)) (journal ++ entry.Claimed w t ∷ []) x) (sym same)
    (subst (λ (x : Bool). IsRight (with_mark rows t p (Held w)) best x n (slice_set holds w (Some t)) (slice_set claims w (k + 1)) (journal ++ entry.Claimed w t ∷ []) room) (sym on)
    (right-claim rows best n holds claims journal room w t k (k + 1) p e free mine refl (subst (λ (x : Bool). IsRight rows best x n holds claims journal room) on right)))))

pub claimed-live : (rows : List Row) (best : Option (ℕ × StopKind)) (halted : Bool) (holds : List (Option ℕ)) (journal new : List Entry) (w t : ℕ) (p q : List ℕ)
    → halted ≡ false → slice_get rows t ≡ Some (row p Open) → q ≡ p → new ≡ journal ++ entry.Claimed w t ∷ []
    → IsClaim (ledger_of (book_of rows best halted) (length holds) journal) w t p claim.Live
    (ledger_of (book_of (slice_set rows t (row q (Held w))) best halted) (length (slice_set holds w (Some t))) new)
claimed-live rows best halted holds journal new w t p q on e path added = record {
  claims = (on, e, ap (λ (x : List ℕ). book_of (slice_set rows t (row x (Held w))) best halted) path);
  workers = length-set holds w (Some t);
  journal = added;
}

pub halted-right : (rows : List Row) (best : Option (ℕ × StopKind)) (halted : Bool) (n : ℕ) (holds : List (Option ℕ)) (claims : List ℕ) (journal new : List Entry) (room more w : ℕ)
    → halted ≡ false → new ≡ journal ++ entry.Halted w ∷ [] → more ≡ room → IsRight rows best halted n holds claims journal room → IsRight rows best true n holds claims new more
halted-right rows best halted n holds claims journal new room more w on added same right =
    subst (λ (x : List Entry). IsRight rows best true n holds claims x more) (sym added)
    (subst (λ (x : ℕ). IsRight rows best true n holds claims (journal ++ entry.Halted w ∷ []) x) (sym same)
    (right-halt rows best n holds claims journal room w (subst (λ (x : Bool). IsRight rows best x n holds claims journal room) on right)))

-- a late post
pub late-right : (rows : List Row) (best : Option (ℕ × StopKind)) (halted : Bool) (n : ℕ) (holds : List (Option ℕ)) (claims : List ℕ) (journal new : List Entry) (room more w t : ℕ)
    (p q : List ℕ) (found : post_type.Post)
    → slice_get rows t ≡ Some (row p (DroppedHeld w)) → slice_get holds w ≡ Some (Some t) → q ≡ p → new ≡ journal ++ entry.Posted w t found ∷ [] → more ≡ room
    → IsRight rows best halted n holds claims journal room → IsRight (slice_set rows t (row q Dropped)) best halted n (slice_set holds w None) claims new more
late-right rows best halted n holds claims journal new room more w t p q found e mine path added same right =
    subst (λ (x : List ℕ). IsRight (slice_set rows t (row x Dropped)) best halted n (slice_set holds w None) claims new more) (sym path)
    (subst (λ (x : List Entry). IsRight (with_mark rows t p Dropped) best halted n (slice_set holds w None) claims x more) (sym added)
    (subst (λ (x : ℕ). IsRight (with_mark rows t p Dropped) best halted n (slice_set holds w None) claims (journal ++ entry.Posted w t found ∷ []) x) (sym same)
    (right-late rows best halted n holds claims journal room w t p found e mine right)))

-- a post in the form that its call leaves
pub posted-as : (rows rows' : List Row) (best best' : Option (ℕ × StopKind)) (halted : Bool) (holds : List (Option ℕ)) (journal new : List Entry) (w t : ℕ) (p : List ℕ) (found : post_type.Post)
    (given : posted_type.Posted) (b : Book)
    → b ≡ book_of rows' best' halted → Posts (book_of rows best halted) w t p found given b → new ≡ journal ++ entry.Posted w t found ∷ []
    → IsPost (ledger_of (book_of rows best halted) (length holds) journal) w t p found given (ledger_of (book_of rows' best' halted) (length (slice_set holds w None)) new)
posted-as rows rows' best best' halted holds journal new w t p found given b same posts added = record {
  posts = subst (λ (x : Book). Posts (book_of rows best halted) w t p found given x) same posts;
  workers = length-set holds w None;
  journal = added;
}

-- kids in the form that their post leaves
pub kids-right : (rows rows' : List Row) (best : Option (ℕ × StopKind)) (halted : Bool) (n n' : ℕ) (holds : List (Option ℕ)) (claims : List ℕ) (journal new : List Entry) (room more w t k : ℕ)
    (p : List ℕ)
    → slice_get rows t ≡ Some (row p (Held w)) → slice_get holds w ≡ Some (Some t) → n' + 1 ≡ n + k → 2 * (length rows + k) + 1 ≤ more → rows' ≡ with_mark rows t p Posted ++ kids p 0 k → new ≡
    journal ++ entry.Posted w t (result.Kids k) ∷ []
    → IsRight rows best halted n holds claims journal room → IsRight rows' best halted n' (slice_set holds w None) claims new more
kids-right rows rows' best halted n n' holds claims journal new room more w t k p e mine count enough rows_are added right =
    subst (λ (x : List Row). IsRight x best halted n' (slice_set holds w None) claims new more) (sym rows_are)
    (subst (λ (x : List Entry). IsRight (with_mark rows t p Posted ++ kids p 0 k) best halted n' (slice_set holds w None) claims x more) (sym added)
    (right-kids rows best halted n n' holds claims journal room more w t k p e mine count enough right))

-- a stop in the form that its post leaves
pub stop-right : (rows rows' : List Row) (best : Option (ℕ × StopKind)) (halted : Bool) (n n' : ℕ) (holds : List (Option ℕ)) (claims : List ℕ) (journal new : List Entry) (room more w t : ℕ)
    (kind : StopKind) (p : List ℕ)
    → slice_get rows t ≡ Some (row p (Held w)) → slice_get holds w ≡ Some (Some t) → n' ≡ opens rows' → rows' ≡ map (dropped_after p) (with_mark rows t p Posted) → new ≡ journal ++ entry.Posted
    w t (result.Stop kind) ∷ [] → more ≡ room
    → IsRight rows best halted n holds claims journal room → IsRight rows' (Some (t, kind)) halted n' (slice_set holds w None) claims new more
stop-right rows rows' best halted n n' holds claims journal new room more w t kind p e mine count rows_are added same right =
    subst (λ (x : List Row). IsRight x (Some (t, kind)) halted n' (slice_set holds w None) claims new more) (sym rows_are)
    (subst (λ (x : List Entry). IsRight (map (dropped_after p) (with_mark rows t p Posted)) (Some (t, kind)) halted n' (slice_set holds w None) claims x more) (sym added)
    (subst (λ (x : ℕ). IsRight (map (dropped_after p) (with_mark rows t p Posted)) (Some (t, kind)) halted n' (slice_set holds w None) claims
    (journal ++ entry.Posted w t (result.Stop kind) ∷ []) x) (sym same)
    (right-stop rows best halted n n' holds claims journal room w t kind p e mine (count ∙ ap opens rows_are) right)))
