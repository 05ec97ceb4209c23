-- The journal of a book: what has happened to it, in order.
use Rattle.std.specs.Prelude.{◌≡◌, ℕ, zero, suc, ◌+◌, ◌<◌, List, [], ◌∷◌, false, cond, ◌==◌}
use Rattle.dps_core.specs.Book.{Book, halted_book, Claims, Posts}
use Rattle.dps_core.specs.declared.event.Claim.TheVariants as claim
use Rattle.dps_core.specs.declared.event.Posted as posted_type
use Rattle.dps_book.specs.declared.entry.Entry.{Entry}
use Rattle.dps_book.specs.declared.entry.Entry.TheVariants as entry

-- what an entry says leads from the one book to the other
abbrev pub Happens : Book → Entry → Book → Type 0
Happens old (entry.Claimed w t) new = (p : List ℕ) × Claims old w t p claim.Live new
Happens old (entry.Posted w t found) new = (p : List ℕ) × (given : posted_type.Posted) × Posts old w t p found given new
Happens old (entry.Halted w) new = (old.halted ≡ false) × (new ≡ halted_book old)

-- so do the entries, one after another
abbrev pub IsReplay : Book → List Entry → Book → Type 0
IsReplay old [] new = new ≡ old
IsReplay old (e ∷ entries) new = (mid : Book) × Happens old e mid × IsReplay mid entries new

-- 1 for a claim of this worker, else 0
abbrev pub claim_by : ℕ → Entry → ℕ
claim_by w (entry.Claimed v t) = cond (v == w) 1 0
claim_by w (entry.Posted v t found) = 0
claim_by w (entry.Halted v) = 0

-- how many claims of this worker are in the journal
abbrev pub claims_by : ℕ → List Entry → ℕ
claims_by w [] = 0
claims_by w (e ∷ entries) = claim_by w e + claims_by w entries

abbrev pub claim_in : Entry → ℕ
claim_in (entry.Claimed v t) = 1
claim_in (entry.Posted v t found) = 0
claim_in (entry.Halted v) = 0

-- how many claims are in the journal
abbrev pub claims_in : List Entry → ℕ
claims_in [] = 0
claims_in (e ∷ entries) = claim_in e + claims_in entries

-- the claims of the first workers together
abbrev pub claims_of_all : ℕ → List Entry → ℕ
claims_of_all zero entries = 0
claims_of_all (suc w) entries = claims_of_all w entries + claims_by w entries

-- who claims is one of so many workers
abbrev pub IsKnown : ℕ → Entry → Type 0
IsKnown workers (entry.Claimed w t) = w < workers
IsKnown workers (entry.Posted w t found) = Unit {0}
IsKnown workers (entry.Halted w) = Unit {0}

abbrev pub AreKnown : ℕ → List Entry → Type 0
AreKnown workers [] = Unit {0}
AreKnown workers (e ∷ entries) = IsKnown workers e × AreKnown workers entries
