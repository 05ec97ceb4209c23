-- What a try of a step answers.
use Rattle.std.specs.Prelude.{◌≡◌, ℕ, ◌<◌, List, ◌∷◌, Bool, true, false, Some, slice_get}
use Rattle.dps_core.specs.declared.rows.Row.{Row}
use Rattle.dps_core.specs.Book.{row, is_claimed}
use Rattle.dps_core.specs.declared.event.Mark.TheVariants.{Held}
use Rattle.dps_core.specs.declared.event.Event.{Event}
use Rattle.dps_core.specs.Pool.{Pool, Step, times}

-- true: the machine has the step, and the state after it is the machine's. False: it has no such step, and nothing changed
abbrev pub IsAnswer : Pool → Event → Bool → Pool → Type 0
IsAnswer old event true new = Step old event new
IsAnswer old event false new = (new ≡ old) × ((any : Pool) → Step old event any → ⊥)

-- the worker's hand has the ticket, and nobody has claimed it
abbrev pub HasAtHand : List Row → List (List ℕ) → ℕ → ℕ → Type 0
HasAtHand rows hands w t =
    (hand : List ℕ) × (r : Row)
    × (slice_get hands w ≡ Some hand)
    × (0 < times t hand)
    × (slice_get rows t ≡ Some r)
    × (is_claimed r.mark ≡ false)

-- the list at this place begins with the ticket
abbrev pub IsFront : List (List ℕ) → ℕ → ℕ → Type 0
IsFront decks place t = (deck : List ℕ) × (slice_get decks place ≡ Some (t ∷ deck))

-- there is such a worker, and it holds the ticket, whose path is open
abbrev pub HasHeld : Pool → ℕ → ℕ → Type 0
HasHeld s w t =
    (hand p : List ℕ)
    × (slice_get s.hands w ≡ Some hand)
    × (slice_get s.book.rows t ≡ Some (row p (Held w)))
