-- What comes of a piece of text, and the first fault of a text's names.
use Rattle.std.specs.Prelude.{◌≡◌, ⊤, Result, Ok, Err}
use Rattle.dps_syntax.specs.Tree.{Lexeme}
use Rattle.dps_scopes.specs.declared.fault.NameCause.{NameCause}
use Rattle.dps_scopes.specs.declared.fault.NameFault.{NameFault}
use Rattle.dps_scopes.specs.declared.fault.NameRefusal.{NameRefusal}
use Rattle.dps_scopes.specs.declared.fault.NameRefusal.TheVariants.{Fault, Memory}
use Rattle.dps_scopes.specs.Faults.{place_of}

-- What comes of a piece of text: a value, with what is known behind it, or the first fault of its names. Pieces are
-- looked at in text order.
pub data Outcome (S A : Type 0) : Type 0 where
  done : A → S → Outcome S A
  faulty : NameFault → Outcome S A

-- the rest of the text, behind a piece without a fault
abbrev pub and_then : {S A B : Type 0} → Outcome S A → (A → S → Outcome S B) → Outcome S B
and_then (done a s) next = next a s
and_then (faulty fault) next = faulty fault

-- a fault at a token
abbrev pub fault_at : {S A : Type 0} → NameCause → Lexeme → Outcome S A
fault_at cause lexeme = faulty (record { place = place_of lexeme; cause = cause })

-- A call answers this outcome, with what it changed as the second argument says: the value and what is known behind it,
-- or the first fault. For out of memory it may answer nothing.
abbrev pub Answers : {A R S : Type 0} → (R → A) → S → Result R NameRefusal → Outcome S A → Type 0
Answers view state (Ok r) outcome = outcome ≡ done (view r) state
Answers view state (Err (Fault fault)) outcome = outcome ≡ faulty fault
Answers view state (Err Memory) outcome = ⊤
