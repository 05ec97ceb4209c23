-- The book: which paths there are, what has become of each, and the best stop so far.
use Rattle.std.specs.Prelude.{◌≡◌, ℕ, zero, suc, List, [], ◌∷◌, ◌++◌, length, map, Bool, true, false, cond, Option, Some, None, slice_get, slice_set}
use Rattle.dps_branch.specs.declared.kind.StopKind.{StopKind}
use Rattle.dps_core.specs.declared.event.Mark.{Mark}
use Rattle.dps_core.specs.declared.event.Mark.TheVariants.{Open, Held, Posted, Dropped, DroppedHeld}
use Rattle.dps_core.specs.declared.event.Post as post_type
use Rattle.dps_core.specs.declared.event.Claim as claim_type
use Rattle.dps_core.specs.declared.event.Posted as posted_type
use Rattle.dps_core.specs.declared.event.Post.TheVariants as result
use Rattle.dps_core.specs.declared.event.Claim.TheVariants as claim
use Rattle.dps_core.specs.declared.event.Posted.TheVariants as answer
use Rattle.dps_core.specs.declared.rows.Row.{Row}
use Rattle.dps_path.specs.Order.{before}

-- a ticket is the index of a row
pub record Book : Type 0 where
  pub rows : List Row
  pub best : Option (ℕ × StopKind)
  pub halted : Bool

abbrev pub row : List ℕ → Mark → Row
row p m = record { path = p; mark = m }

-- the root, open, with ticket 0
abbrev pub first_book : Book
first_book = record { rows = row [] Open ∷ []; best = None; halted = false }

-- a held path is open too
abbrev pub is_open : Mark → Bool
is_open Open = true
is_open (Held w) = true
is_open Posted = false
is_open Dropped = false
is_open (DroppedHeld w) = false

-- a path that is dropped held is dropped too
abbrev pub is_dropped : Mark → Bool
is_dropped Open = false
is_dropped (Held w) = false
is_dropped Posted = false
is_dropped Dropped = true
is_dropped (DroppedHeld w) = true

-- claimed, and its post is still to come
abbrev pub is_claimed : Mark → Bool
is_claimed Open = false
is_claimed (Held w) = true
is_claimed Posted = false
is_claimed Dropped = false
is_claimed (DroppedHeld w) = true

abbrev pub drop_mark : Mark → Mark
drop_mark Open = Dropped
drop_mark (Held w) = DroppedHeld w
drop_mark Posted = Posted
drop_mark Dropped = Dropped
drop_mark (DroppedHeld w) = DroppedHeld w

-- an open path after p is dropped
abbrev pub dropped_after : List ℕ → Row → Row
dropped_after p r = record { path = r.path; mark = cond (before p r.path) (drop_mark r.mark) r.mark }

-- n kids of p from the number i on
abbrev pub kids : List ℕ → ℕ → ℕ → List Row
kids p i zero = []
kids p i (suc n) = row (p ++ i ∷ []) Open ∷ kids p (suc i) n

abbrev pub with_mark : List Row → ℕ → List ℕ → Mark → List Row
with_mark rows t p m = slice_set rows t (row p m)

-- worker w claims ticket t as path p
abbrev pub Claims : Book → ℕ → ℕ → List ℕ → claim_type.Claim → Book → Type 0
Claims old w t p claim.Live new =
    (old.halted ≡ false)
    × (slice_get old.rows t ≡ Some (row p Open))
    × (new ≡ record { rows = with_mark old.rows t p (Held w); best = old.best; halted = old.halted })
Claims old w t p claim.Dead new =
    (old.halted ≡ false) × (slice_get old.rows t ≡ Some (row p Open) → ⊥) × (new ≡ old)
Claims old w t p claim.Halted new = (old.halted ≡ true) × (new ≡ old)

-- worker w posts what it found at ticket t, whose path is p
abbrev pub Posts : Book → ℕ → ℕ → List ℕ → post_type.Post → posted_type.Posted → Book → Type 0
Posts old w t p found answer.Dropped new =
    (slice_get old.rows t ≡ Some (row p (DroppedHeld w)))
    × (new ≡ record { rows = with_mark old.rows t p Dropped; best = old.best; halted = old.halted })
Posts old w t p (result.Kids n) (answer.Kids first) new =
    (slice_get old.rows t ≡ Some (row p (Held w)))
    × (first ≡ length old.rows)
    × (new ≡ record { rows = with_mark old.rows t p Posted ++ kids p 0 n; best = old.best; halted = old.halted })
Posts old w t p (result.Stop kind) answer.Best new =
    (slice_get old.rows t ≡ Some (row p (Held w)))
    × (new ≡ record { rows = map (dropped_after p) (with_mark old.rows t p Posted); best = Some (t, kind); halted = old.halted })
Posts old w t p (result.Kids n) answer.Best new = ⊥
Posts old w t p (result.Stop kind) (answer.Kids first) new = ⊥

abbrev pub halted_book : Book → Book
halted_book old = record { rows = old.rows; best = old.best; halted = true }
