-- What an identifier means is there: a local in scope, a declared name, a symbol with its arity, a definition with its
-- parameters, or the projection of a tuple of two to eight members.
use Rattle.std.proofs.Common.{◌≡◌, ◌≤◌, ◌<◌, ℕ, ◌+◌, ◌-◌, Bool, true, false, ◌&&◌, if◌then◌else◌, List, [], ◌∷◌, Option, Some, None, refl, sym, ap, subst, length, get_or, arith}
use Rattle.std.specs.Prelude.{◌==◌, nat_le, slice_get, position, unwrap_or, ⊤}
use Rattle.std.specs.Str.{byte, bytes_eq}
use Rattle.std.specs.Option.{option_map}
use Rattle.std.proofs.lemmas.Bool.{leb-true}
use Rattle.std.proofs.lemmas.Option.{none-some, same_Some, slice_get-get_or}
use Rattle.std.proofs.lemmas.List.Quantifiers.{position-Some}
use Rattle.dps_signature.specs.Signature.{Signature, HasArity, IsNameThere, shapes}
use Rattle.dps_signature.specs.Names.{symbol_named, name_named}
use Rattle.dps_scopes.specs.declared.meaning.Projection.{Projection}
use Rattle.dps_scopes.specs.declared.meaning.Meaning.{Meaning}
use Rattle.dps_scopes.specs.declared.meaning.Meaning.TheVariants.{Local as a_local, Name as a_name, Function as a_function, Process as a_process, Projection as a_projection, Unknown as unknown}
use Rattle.dps_scopes.specs.Scopes.{Locals, local_count, first_found, local_named, is_projection_word, are_projection_digits, begins_as_projection, projection_of}
use Rattle.dps_scopes.specs.Scopes.{defined, named, function_or_named, declared_meaning, projection_or_declared, local_or_declared, meaning}
use Rattle.dps_names.specs.Program.{Definition}
use Rattle.dps_names.specs.WellFormed.{TakesArguments}
use Rattle.dps_names.proofs.SignatureGrowth.{function_arity, name_there}

-- one of the projections of a tuple of two to eight members
pub record IsOfTuple (projection : Projection) : Type 0 where
  pub some : 2 ≤ projection.length
  pub few : projection.length ≤ 8
  pub first : 1 ≤ projection.index
  pub within : projection.index ≤ projection.length

abbrev pub Stands : Signature → List Definition → ℕ → Meaning → Type 0
Stands signature definitions n (a_local i) = i < n
Stands signature definitions n (a_name k is_private) = IsNameThere signature is_private k
Stands signature definitions n (a_function f arity) = HasArity (shapes signature) f arity
Stands signature definitions n (a_process k parameters) = TakesArguments definitions k parameters
Stands signature definitions n (a_projection projection) = IsOfTuple projection
Stands signature definitions n unknown = ⊤

-- what stands at the first position that passes
pub record IsAt {X : Type 0} (xs : List X) (i : ℕ) : Type 0 where
  pub value : X
  pub found : slice_get xs i ≡ Some value

pub at_position : {X : Type 0} (p : X → Bool) (xs : List X) (i : ℕ) → position p xs ≡ Some i → IsAt xs i
at_position p [] i e = absurd (none-some i e)
at_position p (x ∷ xs) i e =
    let h = position-Some p (x ∷ xs) i x e in
    record { value = get_or (x ∷ xs) i x; found = slice_get-get_or (x ∷ xs) i x h.0 }

-- what is read of what stands there
read_at : {X Y : Type 0} (f : X → Y) (xs : List X) (i : ℕ) (x : X) (d : Y) → slice_get xs i ≡ Some x → f x ≡ unwrap_or (option_map f (slice_get xs i)) d
read_at f xs i x d e = ap (λ o. unwrap_or (option_map f o) d) (sym e)

-- declarations

defined_stands :
    (signature : Signature) (definitions : List Definition) (n : ℕ) (p : Definition → Bool) (o : Option ℕ) → position p definitions ≡ o
    → Stands signature definitions n (defined definitions o)
defined_stands signature definitions n p None e = tt
defined_stands signature definitions n p (Some k) e =
    let d = at_position p definitions k e in
    (d.value, d.found, read_at (λ (x : Definition). x.parameters) definitions k d.value 0 d.found)

named_stands :
    (signature : Signature) (definitions : List Definition) (n : ℕ) (text : List ℕ) (o : Option ℕ) → name_named signature text ≡ o
    → Stands signature definitions n (named signature definitions text o)
named_stands signature definitions n text None e = defined_stands signature definitions n (λ d. bytes_eq text d.name) (position (λ d. bytes_eq text d.name) definitions) refl
named_stands signature definitions n text (Some k) e = name_there signature text k e

function_stands :
    (signature : Signature) (definitions : List Definition) (n : ℕ) (text : List ℕ) (o : Option ℕ) → symbol_named signature text ≡ o
    → Stands signature definitions n (function_or_named signature definitions text o)
function_stands signature definitions n text None e = named_stands signature definitions n text (name_named signature text) refl
function_stands signature definitions n text (Some f) e = function_arity signature text f e

pub declared_stands : (signature : Signature) (definitions : List Definition) (n : ℕ) (text : List ℕ) → Stands signature definitions n (declared_meaning signature definitions text)
declared_stands signature definitions n text =
    either (begins_as_projection text) (function_or_named signature definitions text (symbol_named signature text)) (function_stands signature definitions n text (symbol_named signature text) refl)
  where
    either : (b : Bool) (m : Meaning) → Stands signature definitions n m → Stands signature definitions n (if b then unknown else m)
    either true m h = tt
    either false m h = h

-- projections

chosen : {A : Type 0} (b : Bool) (x y : A) → (if b then Some x else None) ≡ Some y → (b ≡ true) × (x ≡ y)
chosen true x y e = (refl, same_Some x y e)
chosen false x y e = absurd (none-some y e)

both : (a b : Bool) → (a && b) ≡ true → (a ≡ true) × (b ≡ true)
both true b e = (refl, e)
both false b e = cc

-- the digits of a projection
pub record AreDigits (i n : ℕ) : Type 0 where
  pub low : 49 ≤ i
  pub within : i ≤ n
  pub some : 50 ≤ n
  pub few : n ≤ 56

are_digits : (i n : ℕ) → are_projection_digits i n ≡ true → AreDigits i n
are_digits i n e =
    let h = both (nat_le (byte "1") i && nat_le i n && nat_le (byte "2") n) (nat_le n (byte "8")) e in
    let j = both (nat_le (byte "1") i && nat_le i n) (nat_le (byte "2") n) h.0 in
    let k = both (nat_le (byte "1") i) (nat_le i n) j.0 in
    record {
      low = leb-true (byte "1") i k.0;
      within = leb-true i n k.1;
      some = leb-true (byte "2") n j.1;
      few = leb-true n (byte "8") h.1;
    }

of_digits : (i n : ℕ) (projection : Projection) → AreDigits i n → record { index = i - byte "0"; length = n - byte "0" } ≡ projection → IsOfTuple projection
of_digits i n projection h e =
    subst IsOfTuple e (record {
      some = omega (arith, h.some);
      few = omega (arith, h.few);
      first = omega (arith, h.low);
      within = omega (arith, h.within, h.low);
    })

projection_stands : (text : List ℕ) (projection : Projection) → projection_of text ≡ Some projection → IsOfTuple projection
projection_stands (p ∷ r ∷ o ∷ j ∷ u ∷ i ∷ v ∷ n ∷ []) projection e =
    let h = chosen (is_projection_word p r o j u && v == byte "_" && are_projection_digits i n) (record { index = i - byte "0"; length = n - byte "0" }) projection e in
    let digits = both (is_projection_word p r o j u && v == byte "_") (are_projection_digits i n) h.0 in
    of_digits i n projection (are_digits i n digits.1) h.1
projection_stands _ projection e = absurd (none-some projection e)

projected_stands :
    (signature : Signature) (definitions : List Definition) (n : ℕ) (text : List ℕ) (o : Option Projection) → projection_of text ≡ o
    → Stands signature definitions n (projection_or_declared signature definitions text o)
projected_stands signature definitions n text None e = declared_stands signature definitions n text
projected_stands signature definitions n text (Some projection) e = projection_stands text projection e

-- locals

found_below : (outside n : ℕ) (o outer : Option ℕ) (k : ℕ) → ((i : ℕ) → o ≡ Some i → i < n) → ((i : ℕ) → outer ≡ Some i → i < outside) → first_found outside o outer ≡ Some k → k < n + outside
found_below outside n None outer k h g e = let below = g k e in omega (arith, below)
found_below outside n (Some i) outer k h g e =
    let below = h i refl in
    let same : outside + i ≡ k = same_Some (outside + i) k e in
    omega (arith, below, same)

local_below : (scope : Locals) (text : List ℕ) (k : ℕ) → local_named scope text ≡ Some k → k < local_count scope
local_below [] text k e = absurd (none-some k e)
local_below (block ∷ scope) text k e =
    found_below (local_count scope) (length block) (position (bytes_eq text) block) (local_named scope text) k
    (λ i f. (position-Some (bytes_eq text) block i [] f).0)
    (λ i f. local_below scope text i f)
    e

local_stands :
    (signature : Signature) (definitions : List Definition) (scope : Locals) (text : List ℕ) (o : Option ℕ) → local_named scope text ≡ o
    → Stands signature definitions (local_count scope) (local_or_declared signature definitions text o)
local_stands signature definitions scope text None e = projected_stands signature definitions (local_count scope) text (projection_of text) refl
local_stands signature definitions scope text (Some i) e = local_below scope text i e

pub meaning_stands :
    (signature : Signature) (definitions : List Definition) (scope : Locals) (text : List ℕ)
    → Stands signature definitions (local_count scope) (meaning signature definitions scope text)
meaning_stands signature definitions scope text = local_stands signature definitions scope text (local_named scope text) refl
