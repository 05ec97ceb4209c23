-- What a steal and a post leave, in one step of the pool, and where there is none.
use Rattle.std.proofs.Common.{◌≡◌, ℕ, ◌<◌, ◌≤◌, List, [], ◌∷◌, ◌++◌, length, map, Some, Bool, true, false, refl, ap, ◌∙◌, sym, subst, ◌⊎◌, inl, inr, arith}
use Rattle.std.specs.Prelude.{slice_get, slice_set}
use Rattle.std.proofs.lemmas.Option.{same_Some, slice_get_within}
use Rattle.dps_branch.specs.declared.kind.StopKind.{StopKind}
use Rattle.dps_core.specs.declared.event.Mark.{Mark}
use Rattle.dps_core.specs.declared.event.Mark.TheVariants.{Open, Held, DroppedHeld, Dropped, Posted}
use Rattle.dps_core.specs.declared.event.Event.TheVariants as event
use Rattle.dps_core.specs.declared.event.Post as post_type
use Rattle.dps_core.specs.declared.event.Posted as posted_type
use Rattle.dps_core.specs.declared.event.Post.TheVariants as result
use Rattle.dps_core.specs.declared.event.Posted.TheVariants as answer
use Rattle.dps_core.specs.declared.rows.Row.{Row}
use Rattle.dps_core.specs.Book.{Book, row, with_mark, kids, dropped_after, Posts}
use Rattle.dps_core.specs.Pool.{Pool, Step, without, tickets, hand_after_post}
use Rattle.dps_core.proofs.Books.{book_of}
use Rattle.dps_core.proofs.Pools.{pool_of}

pub steal-step : (s : Pool) (w t other : ℕ) (hand deck hand' deck' : List ℕ) → (other ≡ w → ⊥) → slice_get s.hands w ≡ Some hand → slice_get s.decks other ≡ Some (t ∷ deck)
    → hand' ≡ hand ++ t ∷ [] → deck' ≡ deck → Step s (event.Steal w t) (pool_of s.book (slice_set s.decks other deck') (slice_set s.hands w hand'))
steal-step s w t other hand deck hand' deck' apart h d new rest = (
  other,
  hand,
  deck,
  apart,
  h,
  d,
  ap (λ (x : List ℕ). pool_of s.book (slice_set s.decks other x) (slice_set s.hands w hand')) rest ∙ ap
      (λ (x : List ℕ). pool_of s.book (slice_set s.decks other deck) (slice_set s.hands w x)) new,
)

-- a ticket that is posted is held, or dropped held
pub posts-mark : (b n : Book) (w t : ℕ) (p : List ℕ) (found : post_type.Post) (given : posted_type.Posted) → Posts b w t p found given n
    → (slice_get b.rows t ≡ Some (row p (DroppedHeld w))) ⊎ (slice_get b.rows t ≡ Some (row p (Held w)))
posts-mark b n w t p found answer.Dropped h = inl h.0
posts-mark b n w t p (result.Kids k) (answer.Kids first) h = inr h.0
posts-mark b n w t p (result.Stop kind) answer.Best h = inr h.0
posts-mark b n w t p (result.Kids k) answer.Best h = absurd h
posts-mark b n w t p (result.Stop kind) (answer.Kids first) h = absurd h

-- no such worker
pub no-hand : (s any : Pool) (w t : ℕ) (found : post_type.Post) → length s.hands ≤ w → Step s (event.Post w t found) any → ⊥
no-hand s any w t found l h = omega (arith, slice_get_within s.hands w h.0 h.4, l)

-- no such ticket
within : (rows : List Row) (t : ℕ) (p : List ℕ) (m n : Mark) → (slice_get rows t ≡ Some (row p m)) ⊎ (slice_get rows t ≡ Some (row p n)) → t < length rows
within rows t p m n (inl e) = slice_get_within rows t (row p m) e
within rows t p m n (inr e) = slice_get_within rows t (row p n) e

pub no-row : (s any : Pool) (w t : ℕ) (found : post_type.Post) → length s.book.rows ≤ t → Step s (event.Post w t found) any → ⊥
no-row s any w t found l h = omega (arith, within s.book.rows t h.1 (DroppedHeld w) (Held w) (posts-mark s.book h.3 w t h.1 found h.2 h.5), l)

-- the ticket's mark is neither
marked : (rows : List Row) (t : ℕ) (r : Row) (p : List ℕ) (m n : Mark) → slice_get rows t ≡ Some r → (r.mark ≡ m → ⊥) → (r.mark ≡ n → ⊥)
    → (slice_get rows t ≡ Some (row p m)) ⊎ (slice_get rows t ≡ Some (row p n)) → ⊥
marked rows t r p m n e f g (inl h) = f (ap (λ (a : Row). a.mark) (same_Some r (row p m) (sym e ∙ h)))
marked rows t r p m n e f g (inr h) = g (ap (λ (a : Row). a.mark) (same_Some r (row p n) (sym e ∙ h)))

pub no-mark : (s any : Pool) (w t : ℕ) (r : Row) (found : post_type.Post) → slice_get s.book.rows t ≡ Some r → (r.mark ≡ DroppedHeld w → ⊥) → (r.mark ≡ Held w → ⊥)
    → Step s (event.Post w t found) any → ⊥
no-mark s any w t r found e f g h = marked s.book.rows t r h.1 (DroppedHeld w) (Held w) e f g (posts-mark s.book h.3 w t h.1 found h.2 h.5)

pub late-step : (s : Pool) (w t : ℕ) (hand hand' : List ℕ) (r : Row) (found : post_type.Post) → slice_get s.hands w ≡ Some hand → slice_get s.book.rows t ≡ Some r → r.mark ≡ DroppedHeld w
    → hand' ≡ without t hand → Step s (event.Post w t found) (pool_of (book_of (with_mark s.book.rows t r.path Dropped) s.book.best s.book.halted) s.decks (slice_set s.hands w hand'))
late-step s w t hand hand' r found h e m new = (
  hand,
  r.path,
  answer.Dropped,
  book_of (with_mark s.book.rows t r.path Dropped) s.book.best s.book.halted,
  h,
  (e ∙ ap (λ (a : Mark). Some (row r.path a)) m, refl),
  ap
      (λ (x : List ℕ). pool_of (book_of (with_mark s.book.rows t r.path Dropped) s.book.best s.book.halted) s.decks (slice_set s.hands w x)) new,
)

pub kids-step : (s : Pool) (w t n : ℕ) (hand hand' p : List ℕ) (rows' : List Row) → slice_get s.hands w ≡ Some hand → slice_get s.book.rows t ≡ Some (row p (Held w))
    → hand' ≡ without t hand ++ tickets (length s.book.rows) n → rows' ≡ with_mark s.book.rows t p Posted ++ kids p 0 n
    → Step s (event.Post w t (result.Kids n)) (pool_of (book_of rows' s.book.best s.book.halted) s.decks (slice_set s.hands w hand'))
kids-step s w t n hand hand' p rows' h e new rows = (
  hand,
  p,
  answer.Kids (length s.book.rows),
  book_of rows' s.book.best s.book.halted,
  h,
  (e, refl, ap (λ (x : List Row). book_of x s.book.best s.book.halted) rows),
  ap
      (λ (x : List ℕ). pool_of (book_of rows' s.book.best s.book.halted) s.decks (slice_set s.hands w x)) new,
)

pub stop-step : (s : Pool) (w t : ℕ) (kind : StopKind) (hand hand' p : List ℕ) (rows' : List Row) → slice_get s.hands w ≡ Some hand → slice_get s.book.rows t ≡ Some (row p (Held w))
    → hand' ≡ without t hand → rows' ≡ map (dropped_after p) (with_mark s.book.rows t p Posted)
    → Step s (event.Post w t (result.Stop kind)) (pool_of (book_of rows' (Some (t, kind)) s.book.halted) s.decks (slice_set s.hands w hand'))
stop-step s w t kind hand hand' p rows' h e new rows = (
  hand,
  p,
  answer.Best,
  book_of rows' (Some (t, kind)) s.book.halted,
  h,
  (e, ap (λ (x : List Row). book_of x (Some (t, kind)) s.book.halted) rows),
  ap
      (λ (x : List ℕ). pool_of (book_of rows' (Some (t, kind)) s.book.halted) s.decks (slice_set s.hands w x)) new,
)
