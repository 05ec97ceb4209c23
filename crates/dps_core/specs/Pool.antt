-- The pool: a book, a deck and a hand of tickets for each worker, and what may happen next.
use Rattle.std.specs.Prelude.{◌≡◌, ℕ, zero, suc, ◌+◌, ◌<◌, List, [], ◌∷◌, ◌++◌, length, Bool, true, false, cond, ◌==◌, Some, slice_get, slice_set, replicate}
use Rattle.dps_core.specs.declared.event.Event.{Event}
use Rattle.dps_core.specs.declared.event.Event.TheVariants.{Push, Pop, Steal, Claim, Post, Halt}
use Rattle.dps_core.specs.declared.event.Claim as claim_type
use Rattle.dps_core.specs.declared.event.Posted as posted_type
use Rattle.dps_core.specs.declared.event.Post as post_type
use Rattle.dps_core.specs.declared.event.Post.TheVariants as result
use Rattle.dps_core.specs.declared.event.Claim.TheVariants as claim
use Rattle.dps_core.specs.declared.event.Posted.TheVariants as answer
use Rattle.dps_core.specs.declared.rows.Row.{Row}
use Rattle.dps_core.specs.Book.{Book, row, first_book, halted_book, is_claimed, Claims, Posts}

pub record Pool : Type 0 where
  pub book : Book
  pub decks : List (List ℕ)
  pub hands : List (List ℕ)

-- ticket 0 is in the hand of worker 0
abbrev pub start : ℕ → Pool
start zero = record { book = first_book; decks = []; hands = [] }
start (suc others) =
    record { book = first_book; decks = replicate (suc others) []; hands = (0 ∷ []) ∷ replicate others [] }

-- how often a ticket stands in a list
abbrev pub times : ℕ → List ℕ → ℕ
times t [] = 0
times t (x ∷ xs) = cond (x == t) 1 0 + times t xs

-- how often it stands in several lists
abbrev pub times_in : ℕ → List (List ℕ) → ℕ
times_in t [] = 0
times_in t (xs ∷ lists) = times t xs + times_in t lists

-- a list without the first place of this ticket
abbrev pub without : ℕ → List ℕ → List ℕ
without t [] = []
without t (x ∷ xs) = cond (x == t) xs (x ∷ without t xs)

-- so many tickets from the first on
abbrev pub tickets : ℕ → ℕ → List ℕ
tickets first zero = []
tickets first (suc n) = first ∷ tickets (suc first) n

-- the hand of a worker has the ticket, and nobody has claimed it
abbrev pub IsAtHand : Pool → ℕ → ℕ → List ℕ → Row → Type 0
IsAtHand s w t hand r =
    (slice_get s.hands w ≡ Some hand)
    × (0 < times t hand)
    × (slice_get s.book.rows t ≡ Some r)
    × (is_claimed r.mark ≡ false)

abbrev pub hand_after_claim : ℕ → List ℕ → claim_type.Claim → List ℕ
hand_after_claim t hand claim.Live = hand
hand_after_claim t hand claim.Dead = without t hand
hand_after_claim t hand claim.Halted = hand

abbrev pub hand_after_post : ℕ → List ℕ → post_type.Post → posted_type.Posted → List ℕ
hand_after_post t hand found answer.Dropped = without t hand
hand_after_post t hand (result.Kids n) (answer.Kids first) = without t hand ++ tickets first n
hand_after_post t hand (result.Stop kind) (answer.Kids first) = without t hand
hand_after_post t hand found answer.Best = without t hand

-- from old, this may happen and lead to new
abbrev pub Step : Pool → Event → Pool → Type 0
Step old (Push w t) new =
    (hand deck : List ℕ) × (r : Row)
    × IsAtHand old w t hand r
    × (slice_get old.decks w ≡ Some deck)
    × (new ≡ record { book = old.book; decks = slice_set old.decks w (deck ++ t ∷ []); hands = slice_set old.hands w (without t hand) })
Step old (Pop w t) new =
    (hand deck : List ℕ)
    × (slice_get old.hands w ≡ Some hand)
    × (slice_get old.decks w ≡ Some (t ∷ deck))
    × (new ≡ record { book = old.book; decks = slice_set old.decks w deck; hands = slice_set old.hands w (hand ++ t ∷ []) })
Step old (Steal w t) new =
    (other : ℕ) × (hand deck : List ℕ)
    × (other ≡ w → ⊥)
    × (slice_get old.hands w ≡ Some hand)
    × (slice_get old.decks other ≡ Some (t ∷ deck))
    × (new ≡ record { book = old.book; decks = slice_set old.decks other deck; hands = slice_set old.hands w (hand ++ t ∷ []) })
Step old (Claim w t) new =
    (hand : List ℕ) × (r : Row) × (given : claim_type.Claim) × (book : Book)
    × IsAtHand old w t hand r
    × Claims old.book w t r.path given book
    × (new ≡ record { book = book; decks = old.decks; hands = slice_set old.hands w (hand_after_claim t hand given) })
Step old (Post w t found) new =
    (hand p : List ℕ) × (given : posted_type.Posted) × (book : Book)
    × (slice_get old.hands w ≡ Some hand)
    × Posts old.book w t p found given book
    × (new ≡ record { book = book; decks = old.decks; hands = slice_set old.hands w (hand_after_post t hand found given) })
Step old (Halt w t) new = new ≡ record { book = halted_book old.book; decks = old.decks; hands = old.hands }

-- these may happen one after another
abbrev pub Run : Pool → List Event → Pool → Type 0
Run old [] new = new ≡ old
Run old (e ∷ events) new = (mid : Pool) × Step old e mid × Run mid events new
