-- What holds of the pool, whatever happens.
use Rattle.std.specs.Prelude.{◌≡◌, ℕ, ◌+◌, ◌≤◌, List, Bool, true, false, Some, slice_get, ◌⊎◌}
use Rattle.dps_branch.specs.declared.kind.StopKind.{StopKind}
use Rattle.dps_path.specs.Order.{before, is_prefix}
use Rattle.dps_core.specs.declared.rows.Row.{Row}
use Rattle.dps_core.specs.Book.{Book, is_open, is_dropped}
use Rattle.dps_core.specs.Pool.{Pool, times_in}

-- how often a ticket stands in all decks and hands
abbrev pub places : Pool → ℕ → ℕ
places s t = times_in t s.decks + times_in t s.hands

-- the ticket t is the best stop
abbrev pub IsBest : Book → ℕ → Type 0
IsBest b t = (kind : StopKind) × (b.best ≡ Some (t, kind))

-- there is a best stop, and this path is after it
abbrev pub IsAfterBest : Book → List ℕ → Type 0
IsAfterBest b p = (t : ℕ) × (r : Row) × IsBest b t × (slice_get b.rows t ≡ Some r) × (before r.path p ≡ true)

-- the ticket t with the row r is open or the best stop
abbrev pub IsLive : Book → ℕ → Row → Type 0
IsLive b t r = (is_open r.mark ≡ true) ⊎ IsBest b t

pub record IsSound (s : Pool) : Type 0 where
  -- a ticket stands at most once over all decks and hands
  pub once : (t : ℕ) → places s t ≤ 1
  -- each open ticket stands there
  pub there : (t : ℕ) (r : Row) → slice_get s.book.rows t ≡ Some r → is_open r.mark ≡ true → 1 ≤ places s t
  -- each dropped path is after the best stop
  pub after : (t : ℕ) (r : Row) → slice_get s.book.rows t ≡ Some r → is_dropped r.mark ≡ true → IsAfterBest s.book r.path
  -- no open path and no best stop is a prefix of another of them
  pub apart : (t u : ℕ) (r q : Row) → slice_get s.book.rows t ≡ Some r → slice_get s.book.rows u ≡ Some q → IsLive s.book t r → IsLive s.book u q → (t ≡ u → ⊥) → is_prefix r.path q.path ≡ false
