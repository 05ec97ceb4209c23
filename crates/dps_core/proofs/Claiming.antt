-- What a claim leaves, in one step of the pool.
use Rattle.std.proofs.Common.{◌≡◌, ℕ, List, Some, Bool, true, false, refl, ap, ◌∙◌, sym}
use Rattle.std.specs.Prelude.{slice_get, slice_set}
use Rattle.std.proofs.lemmas.Option.{same_Some}
use Rattle.dps_core.specs.declared.event.Mark.{Mark}
use Rattle.dps_core.specs.declared.event.Mark.TheVariants.{Open, Held}
use Rattle.dps_core.specs.declared.event.Event.TheVariants as event
use Rattle.dps_core.specs.declared.event.Claim.TheVariants as claim
use Rattle.dps_core.specs.declared.rows.Row.{Row}
use Rattle.dps_core.specs.Book.{row, with_mark}
use Rattle.dps_core.specs.Pool.{Pool, Step, IsAtHand, without}
use Rattle.dps_core.proofs.Books.{book_of}
use Rattle.dps_core.proofs.Pools.{pool_of}
use Rattle.dps_core.proofs.Lists.{set-same}

same_hands : (s : Pool) (w : ℕ) (hand : List ℕ) → slice_get s.hands w ≡ Some hand → s.hands ≡ slice_set s.hands w hand
same_hands s w hand e = sym (set-same s.hands w hand e)

pub claim-halted : (s : Pool) (w t : ℕ) (hand : List ℕ) (r : Row) → IsAtHand s w t hand r → s.book.halted ≡ true → Step s (event.Claim w t) s
claim-halted s w t hand r h e = (hand, r, claim.Halted, s.book, h, (e, refl), ap (pool_of s.book s.decks) (same_hands s w hand h.0))

pub claim-live : (s : Pool) (w t : ℕ) (hand : List ℕ) (r : Row) → IsAtHand s w t hand r → s.book.halted ≡ false → r.mark ≡ Open
    → Step s (event.Claim w t) (pool_of (book_of (with_mark s.book.rows t r.path (Held w)) s.book.best s.book.halted) s.decks s.hands)
claim-live s w t hand r h e o = (
  hand,
  r,
  claim.Live,
  book_of (with_mark s.book.rows t r.path (Held w)) s.book.best s.book.halted,
  h,
  (e, h.2 ∙ ap (λ (m : Mark). Some (row r.path m)) o, refl),
  ap
      (pool_of (book_of (with_mark s.book.rows t r.path (Held w)) s.book.best s.book.halted) s.decks) (same_hands s w hand h.0),
)

pub claim-dead : (s : Pool) (w t : ℕ) (hand : List ℕ) (r : Row) → IsAtHand s w t hand r → s.book.halted ≡ false → (r.mark ≡ Open → ⊥)
    → Step s (event.Claim w t) (pool_of s.book s.decks (slice_set s.hands w (without t hand)))
claim-dead s w t hand r h e o =
    (hand, r, claim.Dead, s.book, h, (e, (λ g. o (ap (λ (a : Row). a.mark) (same_Some r (row r.path Open) (sym h.2 ∙ g)))), refl), refl)
