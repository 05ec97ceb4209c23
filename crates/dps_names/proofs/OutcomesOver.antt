-- What a piece of text gives: a value that meets P over the signature behind the piece, which grew from the one before it
-- and has the symbols of each of its tuples.
use Rattle.std.proofs.Common.{◌≡◌, Bool, true, false, if◌then◌else◌, refl}
use Rattle.dps_signature.specs.Signature.{Signature}
use Rattle.dps_scopes.specs.Outcome.{Outcome, done, faulty, and_then}
use Rattle.dps_names.proofs.SignatureGrowth.{Grows, HasTuples, grows_refl, grows_trans}

pub record Reads {A : Type 0} (start : Signature) (P : Signature → A → Type 0) (a : A) (after : Signature) : Type 0 where
  pub grows : Grows start after
  pub tuples : HasTuples after
  pub value : P after a

abbrev pub Holds : {A : Type 0} → Signature → (Signature → A → Type 0) → Outcome Signature A → Type 0
Holds start P (done a after) = Reads start P a after
Holds start P (faulty fault) = Unit {0}

pub record Gives {A : Type 0} (start : Signature) (P : Signature → A → Type 0) (o : Outcome Signature A) : Type 0 where
  pub holds : Holds start P o

-- a value, where nothing is read
pub gives_done : {A : Type 0} (s : Signature) (P : Signature → A → Type 0) (a : A) → HasTuples s → P s a → Gives s P (done a s)
gives_done s P a t h = record { holds = record { grows = grows_refl s; tuples = t; value = h } }

-- what comes from a signature that grew comes from the one that it grew from
pub gives_later : {A : Type 0} (s t : Signature) (P : Signature → A → Type 0) (o : Outcome Signature A) → Grows s t → Gives t P o → Gives s P o
gives_later s t P (done a after) g h = record { holds = record { grows = grows_trans s t after g h.holds.grows; tuples = h.holds.tuples; value = h.holds.value } }
gives_later s t P (faulty f) g h = record { holds = tt }

pub gives_then :
    {A B : Type 0} (s : Signature) (o : Outcome Signature A) (next : A → Signature → Outcome Signature B) (P : Signature → A → Type 0) (Q : Signature → B → Type 0)
    → Gives s P o → ((a : A) (t : Signature) → Grows s t → HasTuples t → P t a → Gives t Q (next a t)) → Gives s Q (and_then o next)
gives_then s (done a t) next P Q h k = gives_later s t Q (next a t) h.holds.grows (k a t h.holds.grows h.holds.tuples h.holds.value)
gives_then s (faulty f) next P Q h k = record { holds = tt }

pub gives_if : {A : Type 0} (s : Signature) (b : Bool) (x y : Outcome Signature A) (P : Signature → A → Type 0) → (b ≡ true → Gives s P x) → (b ≡ false → Gives s P y) → Gives s P (if b then x else y)
gives_if s true x y P f g = f refl
gives_if s false x y P f g = g refl

pub gives_weaker : {A : Type 0} (s : Signature) (P Q : Signature → A → Type 0) (o : Outcome Signature A) → ((t : Signature) (a : A) → P t a → Q t a) → Gives s P o → Gives s Q o
gives_weaker s P Q (done a t) f h = record { holds = record { grows = h.holds.grows; tuples = h.holds.tuples; value = f t a h.holds.value } }
gives_weaker s P Q (faulty fault) f h = record { holds = tt }
