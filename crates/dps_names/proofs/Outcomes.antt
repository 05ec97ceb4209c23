-- What holds of a piece of text that has no fault.
use Rattle.std.proofs.Common.{◌≡◌, Bool, true, false, if◌then◌else◌, refl}
use Rattle.dps_scopes.specs.Outcome.{Outcome, done, faulty, and_then}

abbrev pub Holds : {S A : Type 0} → Outcome S A → (A → S → Type 0) → Type 0
Holds (done a s) P = P a s
Holds (faulty fault) P = Unit {0}

-- the value, and what is known behind it, if there is no fault
pub record OnDone {S A : Type 0} (o : Outcome S A) (P : A → S → Type 0) : Type 0 where
  pub holds : Holds o P

pub on_then :
    {S A B : Type 0} (o : Outcome S A) (next : A → S → Outcome S B) (P : A → S → Type 0) (Q : B → S → Type 0) → OnDone o P
    → ((a : A) (s : S) → P a s → OnDone (next a s) Q) → OnDone (and_then o next) Q
on_then (done a s) next P Q h k = k a s h.holds
on_then (faulty fault) next P Q h k = record { holds = tt }

pub on_if : {S A : Type 0} (b : Bool) (x y : Outcome S A) (P : A → S → Type 0) → (b ≡ true → OnDone x P) → (b ≡ false → OnDone y P) → OnDone (if b then x else y) P
on_if true x y P f g = f refl
on_if false x y P f g = g refl

pub on_weaker : {S A : Type 0} (o : Outcome S A) (P Q : A → S → Type 0) → ((a : A) (s : S) → P a s → Q a s) → OnDone o P → OnDone o Q
on_weaker (done a s) P Q k h = record { holds = k a s h.holds }
on_weaker (faulty fault) P Q k h = record { holds = tt }
